-- Laws of the whole-number definitions, for the functions here and the layers above. `up`, `dn` and the laws
-- that `omega` reads are those of rounding's Lin.antt. Assumes nothing.
use Rattle.std.proofs.Common.{◌≡◌, ℕ, suc, ◌+◌, ◌-◌, ◌*◌, ◌/◌, ◌^◌, ◌<◌, ◌≤◌, Bool, true, false, cond, eqb, leb, ℤ, pos, negsuc, ◌+ℤ◌, ◌-ℤ◌, ◌*ℤ◌, neg_ℤ, nat_abs, refl, ap, ◌∙◌, mod-lt, suc-mul, add-mul, lt_of_mul-lt-mul_right, one-mul, div-add-mod', zero-mul, arith, lit<, pow_pos, pow-add, to_z-of_z, w16, w64, SFits, to_z, of_z, ne_eqb}
use borrow.Author.Tests.{lt-leb}
use lib.Signed.{lt_z, shr_z}
use mir.Facts.{sfits_widen}
use Rattle.rounding.specs.Cut.{halfUp, cut_by}
use Rattle.rounding.proofs.Cut.{cut_half_up}
use Rattle.rounding.proofs.Lin.{up, dn, add_law, up_neg, dn_neg, add_le, abs_neg_ℤ, mul_le, abs_fits, fits_abs, fit_out, fit_in, lt_yes, lt_no, lt_no_in, shr_law, eq_in}
use Rattle.numbers.specs.Integers.{sat16_of, stop64, round_shift_of, mod_z}

-- ---- an i16 in an i64
pub widen : {z : ℤ} → SFits w16 z → SFits w64 z
widen f = sfits_widen tt f

-- what the machine holds of an i16 that is cast to an i64
pub wide : {z : ℤ} → SFits w16 z → to_z w64 (of_z w64 (to_z w16 (of_z w16 z))) ≡ z
wide f = rw (to_z-of_z f) (to_z-of_z (widen f))

-- |a * b| is at most 2^30, reached by -32768 times -32768
pub product_le : (a b : ℤ) → SFits w16 a → SFits w16 b → nat_abs (a *ℤ b) ≤ 2 ^ 30
product_le a b f g = mul_le a b (2 ^ 15) (2 ^ 15) (fits_abs f) (fits_abs g)

pub product_fits : (a b : ℤ) → SFits w16 a → SFits w16 b → SFits w64 (a *ℤ b)
product_fits a b f g = abs_fits w64 (a *ℤ b) (product_le a b f g) (lit< tt)

pub sum_fits : (a b : ℤ) → SFits w16 a → SFits w16 b → SFits w64 (a +ℤ b)
sum_fits a b f g = abs_fits w64 (a +ℤ b) {k = 2 ^ 16} (omega (arith, add_le a b, fits_abs f, fits_abs g)) (lit< tt)

pub difference_fits : (a b : ℤ) → SFits w16 a → SFits w16 b → SFits w64 (a -ℤ b)
difference_fits a b f g = abs_fits w64 (a -ℤ b) {k = 2 ^ 16} (omega (arith, add_le a (neg_ℤ b), abs_neg_ℤ b, fits_abs f, fits_abs g)) (lit< tt)

-- an operation on two i16 that are cast to i64s: what it asks, and what the machine holds of it
abbrev pub cast : ℤ → ℤ
cast z = to_z w64 (of_z w64 (to_z w16 (of_z w16 z)))

module _ (op : ℤ → ℤ → ℤ) {a b : ℤ} (f : SFits w16 a) (g : SFits w16 b) (h : SFits w64 (op a b)) where
  cast_fits : SFits w64 (op (cast a) (cast b))
  cast_fits = rw (wide f, wide g) h

  pub cast_held : to_z w64 (of_z w64 (op (cast a) (cast b))) ≡ op a b
  cast_held = to_z-of_z cast_fits ∙ rw (wide f, wide g)

pub cast_sum : {a b : ℤ} → SFits w16 a → SFits w16 b → SFits w64 (cast a +ℤ cast b)
cast_sum {a} {b} f g = cast_fits ◌+ℤ◌ f g (sum_fits a b f g)

pub cast_difference : {a b : ℤ} → SFits w16 a → SFits w16 b → SFits w64 (cast a -ℤ cast b)
cast_difference {a} {b} f g = cast_fits ◌-ℤ◌ f g (difference_fits a b f g)

pub cast_product : {a b : ℤ} → SFits w16 a → SFits w16 b → SFits w64 (cast a *ℤ cast b)
cast_product {a} {b} f g = cast_fits ◌*ℤ◌ f g (product_fits a b f g)

-- ---- sat16: the identity in range, always in range, and monotone
pub sat_same : (x : ℤ) → SFits w16 x → sat16_of x ≡ x
unfolding sat16_of
sat_same x f = rw (lt_no_in (pos 32767) x (omega (arith, fit_out f)), lt_no_in x (negsuc 32767) (omega (arith, fit_out f)))

-- the three ways of a limited number: at the upper end, at the lower end, itself
module _ (P : ℤ → Type 0) where
  pub sat_ways : (x : ℤ) → (lt_z (pos 32767) x ≡ true → P (pos 32767)) → (lt_z (pos 32767) x ≡ false → lt_z x (negsuc 32767) ≡ true → P (negsuc 32767)) → (lt_z (pos 32767) x ≡ false → lt_z x (negsuc 32767) ≡ false → P x) → P (sat16_of x)
  unfolding sat16_of
  sat_ways x a b c = by (lt_z (pos 32767) x) refl (lt_z x (negsuc 32767)) refl
    where
      by : (s : Bool) → lt_z (pos 32767) x ≡ s → (t : Bool) → lt_z x (negsuc 32767) ≡ t → P (cond s (pos 32767) (cond t (negsuc 32767) x))
      by true e t f = a e
      by false e true f = b e f
      by false e false f = c e f

pub sat_fits : (x : ℤ) → SFits w16 (sat16_of x)
sat_fits x =
    sat_ways (SFits w16) x (λ e. record { sfits = lit< tt }) (λ e f. record { sfits = lit< tt })
    (λ e f. fit_in w16 x (omega (arith, lt_no (pos 32767) x e)) (omega (arith, lt_no x (negsuc 32767) f)))

pub sat_mono : (x y : ℤ) → up x + dn y ≤ up y + dn x → up (sat16_of x) + dn (sat16_of y) ≤ up (sat16_of y) + dn (sat16_of x)
sat_mono x y h =
    sat_ways (λ (z : ℤ). up z + dn (sat16_of y) ≤ up (sat16_of y) + dn z) x
    (λ e. sat_ways (λ (z : ℤ). 32767 + dn z ≤ up z + 0) y (λ g. omega arith) (λ g k. omega (arith, lt_yes (pos 32767) x e, lt_yes y (negsuc 32767) k)) (λ g k. omega (arith, lt_yes (pos 32767) x e, lt_no (pos 32767) y g)))
    (λ e f. sat_ways (λ (z : ℤ). 0 + dn z ≤ up z + 32768) y (λ g. omega arith) (λ g k. omega arith) (λ g k. omega (arith, lt_no y (negsuc 32767) k)))
    (λ e f. sat_ways (λ (z : ℤ). up x + dn z ≤ up z + dn x) y (λ g. omega (arith, lt_no (pos 32767) x e)) (λ g k. omega (arith, lt_yes y (negsuc 32767) k, lt_no x (negsuc 32767) f)) (λ g k. h))

-- ---- a quotient rounded down is the only number with its two bounds
below : (a b c d m : ℕ) → a * m + b * m < c * m + d * m + m → a + b ≤ c + d
below a b c d m h = within (a + b) (c + d) (lt_of_mul-lt-mul_right m (omega (arith, add-mul a b m, add-mul (c + d) 1 m, add-mul c d m, one-mul m)))
  where
    within : (a b : ℕ) → a < b + 1 → a ≤ b
    within a b h = omega arith

pub shr_only : (y z : ℤ) (m : ℕ) → 0 < m → up z * m + dn y ≤ up y + dn z * m → up y + dn z * m < up z * m + dn y + m → shr_z y m ≡ z
shr_only y z m M h k =
    let q = shr_z y m in
    let l = shr_law y m M in
    eq_in q z (both (up q + dn z) (up z + dn q) (below (up q) (dn z) (up z) (dn q) m (omega arith)) (below (up z) (dn q) (up q) (dn z) m (omega arith)))
  where
    both : (a b : ℕ) → a ≤ b → b ≤ a → a ≡ b
    both a b h k = omega arith

-- ---- round_shift
-- where the sum does not pass the largest i64, it is the quotient of x + 2^(s-1) rounded down
pub round_is : (x : ℤ) (s : ℕ) → (s ≡ 0 → ⊥) → s < 63 → up x + 2 ^ (s - 1) ≤ dn x + 9223372036854775807 → round_shift_of x s ≡ shr_z (x +ℤ pos (2 ^ (s - 1))) (2 ^ s)
unfolding round_shift_of
round_is x s n l h =
    rw (ne_eqb s 0 n)
    (ap (λ (t : Bool). cond t (cond (lt_z x (pos 0)) (negsuc 0) (pos 0)) (shr_z (stop64 (x +ℤ pos (2 ^ (s - 1)))) (2 ^ s)))
    (lt-leb 63 s l)
    ∙ ap (λ (z : ℤ). shr_z z (2 ^ s)) (not_stopped (x +ℤ pos (2 ^ (s - 1))) (omega (arith, add_law x (pos (2 ^ (s - 1)))))))
  where
    not_stopped : (z : ℤ) → up z ≤ dn z + 9223372036854775807 → stop64 z ≡ z
    not_stopped z h = rw (lt_no_in (pos 9223372036854775807) z (omega arith))

-- it is x / 2^s cut by the rule `halfUp`: m is 2 * h
abbrev below0 : ℤ → Bool
below0 (pos n) = false
below0 (negsuc n) = true

abbrev signed : Bool → ℕ → ℤ
signed false n = pos n
signed true n = neg_ℤ (pos n)

pub shr_cut : (x : ℤ) (h m : ℕ) → m ≡ h * 2 → 0 < h → shr_z (x +ℤ pos h) m ≡ signed (below0 x) (cut_by halfUp (below0 x) (nat_abs x) m)
shr_cut (pos n) h m M H =
    let c = cut_by halfUp false n m in
    let w = cut_half_up false n m (omega arith) in
    shr_only (pos n +ℤ pos h) (pos c) m (omega arith) (omega (arith, zero-mul m)) (omega (arith, zero-mul m))
shr_cut (negsuc k) h m M H =
    let c = cut_by halfUp true (suc k) m in
    let w = cut_half_up true (suc k) m (omega arith) in
    shr_only (negsuc k +ℤ pos h) (neg_ℤ (pos c)) m (omega arith)
    (rw (up_neg (pos c), dn_neg (pos c)) (omega (arith, zero-mul m, add_law (negsuc k) (pos h))))
    (rw (up_neg (pos c), dn_neg (pos c)) (omega (arith, zero-mul m, add_law (negsuc k) (pos h))))

pub round_cut : (x : ℤ) (s : ℕ) → (s ≡ 0 → ⊥) → s < 63 → up x + 2 ^ (s - 1) ≤ dn x + 9223372036854775807 → round_shift_of x s ≡ signed (below0 x) (cut_by halfUp (below0 x) (nat_abs x) (2 ^ s))
round_cut x s n l h = round_is x s n l h ∙ shr_cut x (2 ^ (s - 1)) (2 ^ s) (twice s n) (pow_pos (s - 1))
  where
    twice : (s : ℕ) → (s ≡ 0 → ⊥) → 2 ^ s ≡ 2 ^ (s - 1) * 2
    twice s n = ap (λ (z : ℕ). 2 ^ z) (prev s n) ∙ pow-add 2 (s - 1) 1
      where
        prev : (s : ℕ) → (s ≡ 0 → ⊥) → s ≡ s - 1 + 1
        prev s n = omega arith

-- ---- monotone: the quotient, the stop, and so the whole
pub shr_mono : (x y : ℤ) (m : ℕ) → 0 < m → up x + dn y ≤ up y + dn x → up (shr_z x m) + dn (shr_z y m) ≤ up (shr_z y m) + dn (shr_z x m)
shr_mono x y m M h =
    let k = shr_law x m M in
    let l = shr_law y m M in
    below (up (shr_z x m)) (dn (shr_z y m)) (up (shr_z y m)) (dn (shr_z x m)) m (omega arith)

stop_mono : (x y : ℤ) → up x + dn y ≤ up y + dn x → up (stop64 x) + dn (stop64 y) ≤ up (stop64 y) + dn (stop64 x)
stop_mono x y h = by (lt_z MAX x) refl (lt_z MAX y) refl
  where
    MAX : ℤ
    MAX = pos 9223372036854775807

    by : (s : Bool) → lt_z MAX x ≡ s → (t : Bool) → lt_z MAX y ≡ t → up (cond s MAX x) + dn (cond t MAX y) ≤ up (cond t MAX y) + dn (cond s MAX x)
    by true e true f = omega arith
    by true e false f = omega (arith, lt_yes MAX x e, lt_no MAX y f)
    by false e true f = omega (arith, lt_no MAX x e)
    by false e false f = h

-- by the outcomes of its three tests: s is 0, s is 63 or more, z is below 0
abbrev round_by : ℕ → Bool → Bool → Bool → ℤ → ℤ
round_by s a b c z = cond a z (cond b (cond c (negsuc 0) (pos 0)) (shr_z (stop64 (z +ℤ pos (2 ^ (s - 1)))) (2 ^ s)))

pub round_mono : (x y : ℤ) (s : ℕ) → up x + dn y ≤ up y + dn x → up (round_shift_of x s) + dn (round_shift_of y s) ≤ up (round_shift_of y s) + dn (round_shift_of x s)
unfolding round_shift_of
round_mono x y s h = by (eqb s 0) (leb 63 s) (lt_z x (pos 0)) refl (lt_z y (pos 0)) refl
  where
    by : (a b c : Bool) → lt_z x (pos 0) ≡ c → (d : Bool) → lt_z y (pos 0) ≡ d → up (round_by s a b c x) + dn (round_by s a b d y) ≤ up (round_by s a b d y) + dn (round_by s a b c x)
    by true b c e d f = h
    by false true true e true f = omega arith
    by false true true e false f = omega arith
    by false true false e true f = omega (arith, lt_no x (pos 0) e, lt_yes y (pos 0) f)
    by false true false e false f = omega arith
    by false false c e d f =
        let m = pos (2 ^ (s - 1)) in
        shr_mono (stop64 (x +ℤ m)) (stop64 (y +ℤ m)) (2 ^ s) (pow_pos s) (stop_mono (x +ℤ m) (y +ℤ m) (omega (arith, add_law x m, add_law y m)))

-- ---- x modulo m: x is q * m plus it, and it is below m
pub mod_law : (x : ℤ) (m : ℕ) → 0 < m → up x + dn (shr_z x m) * m ≡ up (shr_z x m) * m + dn x + mod_z x m
mod_law (pos n) m M = omega (arith, div-add-mod' n m)
mod_law (negsuc n) m M = rw (suc-mul (n / m) m) (omega (arith, div-add-mod' n m, mod-lt n M))

pub mod_below : (x : ℤ) (m : ℕ) → 0 < m → mod_z x m < m
mod_below (pos n) m M = mod-lt n M
mod_below (negsuc n) m M = omega arith
