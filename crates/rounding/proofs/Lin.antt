-- Linear arithmetic on ℤ by `omega`, which reads ℕ alone. `up z` and `dn z` are z's part above 0 and its part
-- below 0: z is up z − dn z.
-- A law turns a sum, a test or a fit into a linear fact of these numbers, which goes into `omega`'s list; a
-- law that ends `-in` goes back. Assumes nothing.
use Prim.Native.Nat.{ℕ, zero, suc, ◌+◌, ◌-◌, ◌*◌, ◌/◌, ◌^◌, ◌<◌, ◌≤◌}
use mathlib.Core.Path.{◌≡◌, refl, sym, ap, ◌∙◌, subst}
use mathlib.Core.Bool.{Bool, true, false, cond, true≢false, false≢true}
use native.Mathlib.Omega.{arith}
use native.Mathlib.Nat.{div-add-mod', mod-lt, suc-mul, mul-le-mul, mul-zero, not-le_of_lt, lt_of_le_of_lt}
use borrow.Author.Tests.{ltb-true, ltb-false, leb-true, leb-false}
use lib.Dec.{T, ltb, leb}
use lib.IntN.{ℤ, pos, negsuc, neg_ℤ, nat_abs, sub_ℕ, ◌+ℤ◌, ◌-ℤ◌, ◌*ℤ◌}
use lib.Signed.{mag, lt_z, le_z, ◌≤ℤ◌, shr_z, mag_shr, nat_abs-le}
use lib.Ieee.Bits.{is_true}
use mir.Syntax.{Width}
use mir.Val.{SFits, hbits, to_z, of_z}
use mir.Facts.{sfits_widen, to_z-of_z}

abbrev pub up : ℤ → ℕ
up (pos n) = n
up (negsuc n) = 0

abbrev pub dn : ℤ → ℕ
dn (pos n) = 0
dn (negsuc n) = suc n

-- ---- sums
sub_law : (a b : ℕ) → up (sub_ℕ a b) + b ≡ a + dn (sub_ℕ a b)
sub_law a b = by (ltb a b) refl
  where
    by : (t : Bool) → ltb a b ≡ t → up (cond t (negsuc (b - suc a)) (pos (a - b))) + b ≡ a + dn (cond t (negsuc (b - suc a)) (pos (a - b)))
    by true e = omega (arith, ltb-true a b e)
    by false e = omega (arith, ltb-false a b e)

pub add_law : (a b : ℤ) → up (a +ℤ b) + (dn a + dn b) ≡ up a + up b + dn (a +ℤ b)
add_law (pos a) (pos b) = omega arith
add_law (pos a) (negsuc b) = omega (arith, sub_law a (suc b))
add_law (negsuc a) (pos b) = omega (arith, sub_law b (suc a))
add_law (negsuc a) (negsuc b) = omega arith

pub up_neg : (a : ℤ) → up (neg_ℤ a) ≡ dn a
up_neg (pos zero) = refl
up_neg (pos (suc n)) = refl
up_neg (negsuc n) = refl

pub dn_neg : (a : ℤ) → dn (neg_ℤ a) ≡ up a
dn_neg (pos zero) = refl
dn_neg (pos (suc n)) = refl
dn_neg (negsuc n) = refl

pub sub_law' : (a b : ℤ) → up (a -ℤ b) + (dn a + up b) ≡ up a + dn b + dn (a -ℤ b)
sub_law' a b = omega (arith, add_law a (neg_ℤ b), up_neg b, dn_neg b)

-- ---- tests that held or failed
pub lt_yes : (a b : ℤ) → lt_z a b ≡ true → up a + dn b < up b + dn a
lt_yes (pos a) (pos b) e = omega (arith, ltb-true a b e)
lt_yes (pos a) (negsuc b) e = absurd (false≢true e)
lt_yes (negsuc a) (pos b) e = omega arith
lt_yes (negsuc a) (negsuc b) e = omega (arith, ltb-true b a e)

pub lt_no : (a b : ℤ) → lt_z a b ≡ false → up b + dn a ≤ up a + dn b
lt_no (pos a) (pos b) e = omega (arith, ltb-false a b e)
lt_no (pos a) (negsuc b) e = omega arith
lt_no (negsuc a) (pos b) e = absurd (true≢false e)
lt_no (negsuc a) (negsuc b) e = omega (arith, ltb-false b a e)

pub le_yes : (a b : ℤ) → le_z a b ≡ true → up a + dn b ≤ up b + dn a
le_yes (pos a) (pos b) e = omega (arith, leb-true a b e)
le_yes (pos a) (negsuc b) e = absurd (false≢true e)
le_yes (negsuc a) (pos b) e = omega arith
le_yes (negsuc a) (negsuc b) e = omega (arith, leb-true b a e)

pub le_no : (a b : ℤ) → le_z a b ≡ false → up b + dn a < up a + dn b
le_no (pos a) (pos b) e = omega (arith, leb-false a b e)
le_no (pos a) (negsuc b) e = omega arith
le_no (negsuc a) (pos b) e = absurd (true≢false e)
le_no (negsuc a) (negsuc b) e = omega (arith, leb-false b a e)

-- ---- and back: the other outcome would contradict the numbers
yes : (t : Bool) → (t ≡ false → ⊥) → t ≡ true
yes true h = refl
yes false h = absurd (h refl)

no : (t : Bool) → (t ≡ true → ⊥) → t ≡ false
no true h = absurd (h refl)
no false h = refl

pub lt_yes_in : (a b : ℤ) → up a + dn b < up b + dn a → lt_z a b ≡ true
lt_yes_in a b h = yes (lt_z a b) (λ e. not-le_of_lt h (lt_no a b e))

pub lt_no_in : (a b : ℤ) → up b + dn a ≤ up a + dn b → lt_z a b ≡ false
lt_no_in a b h = no (lt_z a b) (λ e. not-le_of_lt (lt_yes a b e) h)

pub le_yes_in : (a b : ℤ) → up a + dn b ≤ up b + dn a → le_z a b ≡ true
le_yes_in a b h = yes (le_z a b) (λ e. not-le_of_lt (le_no a b e) h)

pub le_no_in : (a b : ℤ) → up b + dn a < up a + dn b → le_z a b ≡ false
le_no_in a b h = no (le_z a b) (λ e. not-le_of_lt h (le_yes a b e))

-- ---- the order as a fact
pub order_out : {a b : ℤ} → a ≤ℤ b → up a + dn b ≤ up b + dn a
order_out {a} {b} h = le_yes a b (is_true (le_z a b) h.le)

pub order_in : (a b : ℤ) → up a + dn b ≤ up b + dn a → a ≤ℤ b
order_in a b h = record { le = subst T (sym (le_yes_in a b h)) tt }

-- ---- bounds: -k ≤ z < k is `mag z < k`, and a fit is such a bound
pub mag_out : (k : ℕ) (z : ℤ) → mag z < k → (up z < dn z + k) × (dn z ≤ up z + k)
mag_out k (pos n) h = (omega arith, omega arith)
mag_out k (negsuc n) h = (omega arith, omega arith)

pub mag_in : (k : ℕ) (z : ℤ) → up z < dn z + k → dn z ≤ up z + k → mag z < k
mag_in k (pos n) h l = omega arith
mag_in k (negsuc n) h l = omega arith

pub fit_out : {w : Width} {z : ℤ} → SFits w z → (up z < dn z + 2 ^ hbits w) × (dn z ≤ up z + 2 ^ hbits w)
fit_out {w} {z} f = mag_out (2 ^ hbits w) z f.sfits

pub fit_in : (w : Width) (z : ℤ) → up z < dn z + 2 ^ hbits w → dn z ≤ up z + 2 ^ hbits w → SFits w z
fit_in w z h k = record { sfits = mag_in (2 ^ hbits w) z h k }

-- what lies between two numbers that fit
pub fit_between : {w : Width} {a b z : ℤ} → SFits w a → SFits w b → a ≤ℤ z → z ≤ℤ b → SFits w z
fit_between {w} {a} {b} {z} f g h k =
    let x = order_out h in
    let y = order_out k in
    fit_in w z (omega (arith, fit_out g)) (omega (arith, fit_out f))

-- ---- |z|
pub abs_out : (z : ℤ) → up z + dn z ≡ nat_abs z
abs_out (pos n) = omega arith
abs_out (negsuc n) = omega arith

pub abs_in : (k : ℕ) (z : ℤ) → up z ≤ dn z + k → dn z ≤ up z + k → nat_abs z ≤ k
abs_in k (pos n) h l = omega arith
abs_in k (negsuc n) h l = omega arith

-- a fit from a bound on |z|, and the bound from a fit
pub abs_fits : (w : Width) (z : ℤ) {k : ℕ} → nat_abs z ≤ k → k < 2 ^ hbits w → SFits w z
abs_fits w z h l = fit_in w z (omega (arith, abs_out z)) (omega (arith, abs_out z))

pub fits_abs : {w : Width} {z : ℤ} → SFits w z → nat_abs z ≤ 2 ^ hbits w
fits_abs {w} {z} f = nat_abs-le z f.sfits

-- ---- equal numbers
nothing : (n : ℕ) → suc n ≡ 0 → ⊥
nothing n h = omega arith

pub eq_in : (a b : ℤ) → up a + dn b ≡ up b + dn a → a ≡ b
eq_in (pos a) (pos b) e = ap pos (omega arith)
eq_in (pos a) (negsuc b) e = absurd (nothing (a + b) (omega arith))
eq_in (negsuc a) (pos b) e = absurd (nothing (a + b) (omega arith))
eq_in (negsuc a) (negsuc b) e = ap negsuc (omega arith)

-- ---- the quotient rounded down: q * m ≤ z < q * m + m
pub shr_law : (z : ℤ) (m : ℕ) → 0 < m → (up (shr_z z m) * m + dn z ≤ up z + dn (shr_z z m) * m) × (up z + dn (shr_z z m) * m < up (shr_z z m) * m + dn z + m)
shr_law (pos a) m h = omega (arith, div-add-mod' a m, mod-lt a h)
shr_law (negsuc a) m h = rw (suc-mul (a / m) m) (omega (arith, div-add-mod' a m, mod-lt a h))

-- ---- products
abs_neg : (n : ℕ) → nat_abs (neg_ℤ (pos n)) ≡ n
abs_neg zero = refl
abs_neg (suc n) = refl

pub abs_mul : (a b : ℤ) → nat_abs (a *ℤ b) ≡ nat_abs a * nat_abs b
abs_mul (pos a) (pos b) = refl
abs_mul (pos a) (negsuc b) = abs_neg (a * suc b)
abs_mul (negsuc a) (pos b) = abs_neg (suc a * b)
abs_mul (negsuc a) (negsuc b) = refl

pub mul_le : (a b : ℤ) (A B : ℕ) → nat_abs a ≤ A → nat_abs b ≤ B → nat_abs (a *ℤ b) ≤ A * B
mul_le a b A B h k = rw abs_mul (mul-le-mul h k)

-- |a + b| is at most |a| + |b|
pub add_le : (a b : ℤ) → nat_abs (a +ℤ b) ≤ nat_abs a + nat_abs b
add_le a b = go (a +ℤ b) (add_law a b)
  where
    go : (z : ℤ) → up z + (dn a + dn b) ≡ up a + up b + dn z → nat_abs z ≤ nat_abs a + nat_abs b
    go (pos n) h = omega (arith, abs_out a, abs_out b)
    go (negsuc n) h = omega (arith, abs_out a, abs_out b)

pub abs_neg_ℤ : (a : ℤ) → nat_abs (neg_ℤ a) ≡ nat_abs a
abs_neg_ℤ (pos n) = abs_neg n
abs_neg_ℤ (negsuc n) = refl

-- a multiple
pub up_mul : (k : ℕ) (z : ℤ) → up (pos k *ℤ z) ≡ k * up z
up_mul k (pos n) = refl
up_mul k (negsuc n) = up_neg (pos (k * suc n)) ∙ sym (mul-zero k)

pub dn_mul : (k : ℕ) (z : ℤ) → dn (pos k *ℤ z) ≡ k * dn z
dn_mul k (pos n) = sym (mul-zero k)
dn_mul k (negsuc n) = dn_neg (pos (k * suc n))

-- ---- a signed number that fits, written to bits and read back. `c.f.ok`, `c.struct_told.given ..` and `c
-- .f-arg .given` are such bounds on `mag`
pub back : (w : Width) (z : ℤ) → mag z < 2 ^ hbits w → to_z w (of_z w z) ≡ z
back w z h = to_z-of_z (record { sfits = h })

-- a number that fits, cast to a wider type w': `widened w' tt f`
pub widened : (w' : Width) {w : Width} {z : ℤ} → T (leb (hbits w) (hbits w')) → SFits w z → to_z w' (of_z w' (to_z w (of_z w z))) ≡ z
widened w' t f = rw (to_z-of_z f) (to_z-of_z (sfits_widen t f))

-- a quotient rounded down fits as the number does
pub shr_fits : {w : Width} {z : ℤ} (m : ℕ) → SFits w z → SFits w (shr_z z m)
shr_fits {w} {z} m f = record { sfits = lt_of_le_of_lt (mag_shr z m) f.sfits }
