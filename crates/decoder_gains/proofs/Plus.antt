-- Gains that are not negative stay so as Q15 numbers, and one of at most 1 is at most 2^31 in 2^-31. Assumes
-- nothing.
use Prim.Native.Nat.{ℕ, zero, suc, ◌+◌, ◌*◌, ◌/◌, ◌^◌, ◌≤◌, ◌<◌, min}
use mathlib.Core.Path.{◌≡◌, refl, sym, subst}
use mathlib.Core.Bool.{Bool, true, false, not, ◌&&◌, ◌||◌, cond, true≢false, false≢true}
use native.Mathlib.Omega.{arith}
use native.Mathlib.Nat.{mul-pos, mul-le-mul_right, lt_of_not-le}
use borrow.Author.Tests.{ltb-true, eqb-true}
use lib.Dec.{T, ltb, eqb, lit<}
use lib.IntN.{pos, negsuc}
use lib.Signed.{le_z}
use lib.Ieee.{Float, nan, inf, fin, Format, prec, emax, low, binary64, up, down, odd, units, round, sum, add, mul, div, le, lt, to_signed}
use lib.Ieee.Bits.{is_true}
use lib.Ieee.Fits.{down_pos, round_is}
use lib.Ieee.Exact.{HasValue}
use lib.Ieee.Order.{transfer, round_mono}
use Rattle.rounding.specs.Cut.{downward, cut_by}
use Rattle.rounding.proofs.Cut.{cut_downward}
use Rattle.rounding.proofs.Lin.{le_yes_in}
use Rattle.rounding.proofs.Round.{exact_at}
use Rattle.rounding.proofs.Value.{to_signed_whole}
use Rattle.floats.specs.Floats.{whole_of, floor_of}
use Rattle.scale.specs.Scaled.{scaled_of}
use Rattle.decoder_gains.specs.Gains.{power, nought}

-- ---- no minus sign: 0 or above, plus infinity, or a NaN
abbrev pub plus : Float → Bool
plus nan = true
plus (inf s) = not s
plus (fin s m e) = not s

pub plus_of_lt : (x : Float) → lt nought x ≡ true → T (plus x)
unfolding lt
plus_of_lt nan h = tt
plus_of_lt (inf true) h = absurd (false≢true h)
plus_of_lt (inf false) h = tt
plus_of_lt (fin true m e) h = absurd (false≢true h)
plus_of_lt (fin false m e) h = tt

cond_plus : (b : Bool) (x y : Float) → T (plus x) → T (plus y) → T (plus (cond b x y))
cond_plus true x y p q = p
cond_plus false x y p q = q

odd_plus : (d q k l : ℕ) → T (plus (odd d false q k l))
unfolding odd
odd_plus d zero k l = tt
odd_plus d (suc q) k l = tt

units_plus : (f : Format) (q k : ℕ) → T (plus (units f false q k))
unfolding units
units_plus f q k = cond_plus (ltb (q * 2 ^ k) (2 ^ (low f + suc (emax f)))) (odd (suc (prec f)) false q k (low f)) (inf false) (odd_plus (suc (prec f)) q k (low f)) tt

pub round_plus : (f : Format) (a c : ℕ) → T (plus (round f false a c))
round_plus f a c = rw (round_is f false a c) (units_plus f _ _)

pub mul_plus : (f : Format) (x y : Float) → T (plus x) → T (plus y) → T (plus (mul f x y))
unfolding mul
mul_plus f nan y p q = tt
mul_plus f (inf true) y p q = absurd p
mul_plus f (inf false) nan p q = tt
mul_plus f (inf false) (inf true) p q = absurd q
mul_plus f (inf false) (inf false) p q = tt
mul_plus f (inf false) (fin true n d) p q = absurd q
mul_plus f (inf false) (fin false n d) p q = cond_plus (eqb n 0) nan (inf false) tt tt
mul_plus f (fin true m e) y p q = absurd p
mul_plus f (fin false m e) nan p q = tt
mul_plus f (fin false m e) (inf true) p q = absurd q
mul_plus f (fin false m e) (inf false) p q = cond_plus (eqb m 0) nan (inf false) tt tt
mul_plus f (fin false m e) (fin true n d) p q = absurd q
mul_plus f (fin false m e) (fin false n d) p q = round_plus f (m * up e * (n * up d)) (down e * down d)

pub div_plus : (f : Format) (x y : Float) → T (plus x) → T (plus y) → T (plus (div f x y))
unfolding div
div_plus f nan y p q = tt
div_plus f (inf true) y p q = absurd p
div_plus f (inf false) nan p q = tt
div_plus f (inf false) (inf t) p q = tt
div_plus f (inf false) (fin true n d) p q = absurd q
div_plus f (inf false) (fin false n d) p q = tt
div_plus f (fin true m e) y p q = absurd p
div_plus f (fin false m e) nan p q = tt
div_plus f (fin false m e) (inf true) p q = absurd q
div_plus f (fin false m e) (inf false) p q = tt
div_plus f (fin false m e) (fin true n d) p q = absurd q
div_plus f (fin false m e) (fin false n d) p q =
    cond_plus (eqb n 0) (cond (eqb m 0) nan (inf false)) (round f false (m * up e * down d) (n * up d * down e)) (cond_plus (eqb m 0) nan (inf false) tt tt) (round_plus f (m * up e * down d) (n * up d * down e))

abbrev half : Float
half = fin false 1 (negsuc 0)

half_plus : (f : Format) (x : Float) → T (plus x) → T (plus (add f x half))
unfolding add sum
half_plus f nan p = tt
half_plus f (inf true) p = absurd p
half_plus f (inf false) p = tt
half_plus f (fin true m e) p = absurd p
half_plus f (fin false m e) p = round_plus f (m * up e * 2 + 1 * down e) (down e * 2)

floor_plus : (x : Float) → T (plus x) → T (plus (floor_of x))
unfolding whole_of
floor_plus nan p = tt
floor_plus (inf s) p = p
floor_plus (fin true m e) p = absurd p
floor_plus (fin false m e) p = round_plus binary64 (cut_by downward false (m * up e) (down e)) 1

signed_plus : (x : Float) → T (plus x) → le_z (pos 0) (to_signed 63 x) ≡ true
unfolding to_signed
signed_plus nan p = refl
signed_plus (inf true) p = absurd p
signed_plus (inf false) p = refl
signed_plus (fin true m e) p = absurd p
signed_plus (fin false m e) p = le_yes_in (pos 0) (pos (min (m * up e / down e) 9223372036854775807)) (omega arith)

pub scaled_plus : (x : Float) (k : ℕ) → T (plus x) → le_z (pos 0) (scaled_of x (power k)) ≡ true
unfolding scaled_of
scaled_plus x k p =
    let a = mul_plus binary64 x (power k) p tt in
    let b = half_plus binary64 (mul binary64 x (power k)) a in
    signed_plus (floor_of (add binary64 (mul binary64 x (power k)) half)) (floor_plus (add binary64 (mul binary64 x (power k)) half) b)

-- ---- between 0 and n / d
abbrev UpTo : ℕ → ℕ → Float → Type 0
UpTo n d nan = ⊥
UpTo n d (inf s) = ⊥
UpTo n d (fin true m e) = ⊥
UpTo n d (fin false m e) = m * up e * d ≤ n * down e

le_or : (a b : ℕ) → ltb a b || (eqb a b && true) ≡ true → a ≤ b
le_or a b h = go (ltb a b) refl (eqb a b) refl h
  where
    go : (x : Bool) → ltb a b ≡ x → (y : Bool) → eqb a b ≡ y → x || (y && true) ≡ true → a ≤ b
    go true e y f h = omega (arith, ltb-true a b e)
    go false e true f h = omega (arith, eqb-true a b f)
    go false e false f h = absurd (false≢true h)

below : (n d : ℕ) → 0 < d → (x y : Float) → T (plus x) → T (le x y) → HasValue y false n d → UpTo n d x
unfolding le
below n d D nan y p h v = absurd h
below n d D (inf true) y p h v = absurd p
below n d D (inf false) nan p h v = absurd v
below n d D (inf false) (inf t) p h v = absurd v
below n d D (inf false) (fin t b k) p h v = absurd h
below n d D (fin true m e) y p h v = absurd p
below n d D (fin false m e) nan p h v = absurd v
below n d D (fin false m e) (inf t) p h v = absurd v
below n d D (fin false m e) (fin true b k) p h v = absurd (true≢false v.0)
below n d D (fin false m e) (fin false b k) p h v =
    transfer (m * up e) n (down e) d (m * up e) (b * up k) (down e) (down k) (down_pos e) (down_pos k) refl (sym v.1) (le_or (m * up e * down k) (b * up k * down e) (is_true _ h))

-- a fraction of at most n / d, rounded, where n / d is a value of the format
round_upto : (n d : ℕ) → 0 < d → HasValue (round binary64 false n d) false n d → (a c : ℕ) → 0 < c → a * d ≤ n * c → UpTo n d (round binary64 false a c)
round_upto n d D v a c C h = below n d D (round binary64 false a c) (round binary64 false n d) (round_plus binary64 a c) (round_mono binary64 a c n d C D h) v

one_upto : (x : Float) → T (plus x) → le x (fin false 1 (pos 0)) ≡ true → UpTo 1 1 x
one_upto x p h = below 1 1 (lit< tt) x (fin false 1 (pos 0)) p (subst T (sym h) tt) (refl, refl)

times_upto : (x : Float) → UpTo 1 1 x → UpTo (2 ^ 31) 1 (mul binary64 x (power 31))
unfolding mul
times_upto nan h = h
times_upto (inf s) h = h
times_upto (fin true m e) h = absurd h
times_upto (fin false m e) h =
    round_upto (2 ^ 31) 1 (lit< tt) (exact_at binary64 false (2 ^ 31) (lit< tt)) (m * up e * (1 * 2 ^ 31)) (down e * 1) (mul-pos (down_pos e) (lit< tt)) (omega arith)

half_exact : HasValue (round binary64 false (2 ^ 32 + 1) 2) false (2 ^ 32 + 1) 2
unfolding round
half_exact = (refl, refl)

half_upto : (x : Float) → UpTo (2 ^ 31) 1 x → UpTo (2 ^ 32 + 1) 2 (add binary64 x half)
unfolding add sum
half_upto nan h = h
half_upto (inf s) h = h
half_upto (fin true m e) h = absurd h
half_upto (fin false m e) h =
    round_upto (2 ^ 32 + 1) 2 (lit< tt) half_exact (m * up e * 2 + 1 * down e) (down e * 2) (mul-pos (down_pos e) (lit< tt)) (omega arith)

whole_part : (n a d : ℕ) → 0 < d → n * d ≤ a → a * 2 ≤ (2 ^ 32 + 1) * d → n ≤ 2 ^ 31
whole_part n a d D h k = let l : n < 2 ^ 31 + 1 = lt_of_not-le (λ (l : 2 ^ 31 + 1 ≤ n). no (mul-le-mul_right d l)) in omega arith
  where
    no : (2 ^ 31 + 1) * d ≤ n * d → ⊥
    no l = omega arith

floor_upto : (x : Float) → UpTo (2 ^ 32 + 1) 2 x → (n : ℕ) × (n ≤ 2 ^ 31) × (to_signed 63 (floor_of x) ≡ pos n)
unfolding whole_of
floor_upto nan h = absurd h
floor_upto (inf s) h = absurd h
floor_upto (fin true m e) h = absurd h
floor_upto (fin false m e) h =
    let n = cut_by downward false (m * up e) (down e) in
    let g = cut_downward false (m * up e) (down e) (down_pos e) in
    let l = whole_part n (m * up e) (down e) (down_pos e) g.0 h in
    (n, l, to_signed_whole 63 (round binary64 false n 1) false n (omega arith) (exact_at binary64 false n (omega arith)))

pub scaled_upto : (x : Float) → T (plus x) → le x (fin false 1 (pos 0)) ≡ true → (n : ℕ) × (n ≤ 2 ^ 31) × (scaled_of x (power 31) ≡ pos n)
unfolding scaled_of
scaled_upto x p h =
    let v = mul binary64 x (power 31) in
    floor_upto (add binary64 v half) (half_upto v (times_upto x (one_upto x p h)))
