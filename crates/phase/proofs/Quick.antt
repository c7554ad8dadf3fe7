-- The floor modulo 2^32 by one sum: v + 1.5 times 2^52 is rounded to a whole number, whose low digits are
-- those of the nearest one to v, and one less where that lies above v. Assumes nothing.
use Rattle.std.proofs.Common.{◌≡◌, ℕ, zero, suc, ◌+◌, ◌-◌, ◌*◌, ◌/◌, ◌%◌, ◌^◌, ◌<◌, ◌≤◌, Bool, true, false, cond, not, T, ltb, ℤ, pos, neg_ℤ, sym, refl, ap, ◌∙◌, le_of_lt, add-mul, lt_of_mul-lt-mul_right, mul-one, arith, lit<, ltb→lt, lt→ltb, ltb-false, ltb-true, le-ltb, lt-ltb}
use mathlib.Core.Bool.{false≢true}
use lib.Ieee.{Float, nan, inf, fin, binary64, up, down, add, sub, lt, below, round, is_nan, to_bits, to_signed}
use lib.Ieee.Exact.{HasValue}
use lib.Ieee.Fits.{down_pos}
use lib.Ieee.Nearest.{closest}
use mir.Val.{bool_byte}
use Rattle.rounding.specs.Cut.{downward, cut_by, Greatest}
use Rattle.rounding.proofs.Cut.{cut_downward, greatest_div, closest_rose}
use Rattle.rounding.proofs.Round.{exact_at, closest_ge, closest_le, integer_value, integer_bits}
use Rattle.rounding.proofs.Value.{same_test, lt_at, shifted, add_whole, gap, sub_whole, to_signed_whole, value_real}
use Rattle.numbers.specs.Integers.{mod_z}
use Rattle.floats.specs.Floats.{floor_of}
use Rattle.scale.specs.Scaled.{scaled_of}
use Rattle.floats.proofs.Floats.{whole_at}
use Rattle.std.proofs.Common.{Some, None}
use Rattle.phase.specs.declared.correction.Corrected.{Corrected}
use Rattle.phase.specs.Correction.{correction_of, v_of, quick_serves, quick_of, corrected_of}

-- 1.5 times 2^52, which is 0 modulo 2^32
abbrev M : ℕ
M = 3 * 2 ^ 51

abbrev pub magic : Float
magic = fin false 3 (pos 51)

apart : (d x y : ℕ) → y ≤ x → (x - y) * d + y * d ≡ x * d
apart d x y h = sym (add-mul (x - y) y d) ∙ ap (λ (z : ℕ). z * d) {x = x - y + y} {y = x} (omega arith)

tests : (x y z w : ℕ) → (x < y → z < w) → (z < w → x < y) → ltb x y ≡ ltb z w
tests x y z w f g = same_test (ltb x y) (ltb z w) (λ t. lt→ltb z w (f (ltb→lt x y t))) (λ t. lt→ltb x y (g (ltb→lt z w t)))

-- ±a/d < q - M says that M ± a/d < q
module _ (a d q : ℕ) (small : a < M * d) where
  less_by : (s t : Bool) → ltb q M ≡ t → below s a t (cond t (M - q) (q - M) * d) ≡ ltb (shifted s (M * d) a) (q * d)
  less_by true true e = let g = apart d M q (le_of_lt (ltb-true q M e)) in tests ((M - q) * d) a (M * d - a) (q * d) (λ h. omega arith) (λ h. omega arith)
  less_by false true e = let g = apart d M q (le_of_lt (ltb-true q M e)) in sym (le-ltb (M * d + a) (q * d) (omega arith))
  less_by true false e = let g = apart d q M (ltb-false q M e) in tests 0 (a + (q - M) * d) (M * d - a) (q * d) (λ h. omega arith) (λ h. omega arith)
  less_by false false e = let g = apart d q M (ltb-false q M e) in tests a ((q - M) * d) (M * d + a) (q * d) (λ h. omega arith) (λ h. omega arith)

-- the floor of M ± a/d is M ± the floor of ±a/d, whose size is n
module _ (a d n : ℕ) (small : a < 2 ^ 51 * d) where
  under : (s : Bool) → Greatest s a d n → n * d < (2 ^ 51 + 1) * d
  under true g = omega arith
  under false g = omega arith

  floor_le : (s : Bool) → Greatest s a d n → n ≤ 2 ^ 51
  floor_le s g = let l : n < 2 ^ 51 + 1 = lt_of_mul-lt-mul_right d (under s g) in omega arith

  on : (s : Bool) → Greatest s a d n → Greatest false (shifted s (M * d) a) d (shifted s M n)
  on true g = let l = floor_le true g in let e = apart d M n (omega arith) in omega arith
  on false g = let e = add-mul M n d in omega arith

-- M adds nothing modulo 2^32
low_of : (s : Bool) (n : ℕ) → n ≤ 2 ^ 51 → shifted s M n % 2 ^ 32 ≡ mod_z (cond s (neg_ℤ (pos n)) (pos n)) (2 ^ 32)
low_of false n h = omega arith
low_of true zero h = refl
low_of true (suc n) h = omega arith

-- ±a/d is v, and below 2^51 in size
pub record Ranged (v : Float) : Type 0 where
  pub s : Bool
  pub a : ℕ
  pub d : ℕ
  pub some : 0 < d
  pub small : a < 2 ^ 51 * d
  pub value : HasValue v s a d

-- 2^51
abbrev limit : Float
limit = fin false 1 (pos 51)

-- between -2^51 and 2^51, as the two tests have it, is below 2^51 in size
pub serves_by : (v : Float) → cond (lt (fin true 1 (pos 51)) v) (lt v limit) false ≡ quick_serves v
unfolding lt
serves_by nan = refl
serves_by (inf true) = refl
serves_by (inf false) = refl
serves_by (fin true m e) = go (ltb (m * up e * 1) (2 ^ 51 * down e))
  where
    some : (a b : ℕ) → 0 < b → ltb 0 (a + b) ≡ true
    some a b h = lt-ltb 0 (a + b) (omega arith)

    go : (t : Bool) → cond t (ltb 0 (m * up e * 1 + 2 ^ 51 * down e)) false ≡ t
    go true = some (m * up e * 1) (2 ^ 51 * down e) (omega (arith, down_pos e))
    go false = refl
serves_by (fin false m e) = go (2 ^ 51 * down e + m * up e * 1) (ltb (m * up e * 1) (2 ^ 51 * down e)) (omega (arith, down_pos e))
  where
    go : (n : ℕ) (t : Bool) → 0 < n → cond (ltb 0 n) t false ≡ t
    go n t h = rw (lt-ltb 0 n h)

pub ranged : (v : Float) → quick_serves v ≡ true → Ranged v
unfolding lt
ranged nan h = absurd (false≢true h)
ranged (inf s) h = absurd (false≢true h)
ranged (fin s m e) h = record { s = s; a = m * up e; d = down e; some = down_pos e; small = omega (arith, mul-one (m * up e), ltb-true (m * up e * 1) (2 ^ 51 * down e) h); value = (refl, refl) }

module _ {v : Float} (k : Ranged v) where
  abbrev s : Bool
  s = k.s

  abbrev a : ℕ
  a = k.a

  abbrev d : ℕ
  d = k.d

  abbrev N : ℕ
  N = shifted s (M * d) a

  abbrev q : ℕ
  q = closest N d

  abbrev sum : Float
  sum = add binary64 v magic

  inside : (2 ^ 52 * d ≤ N) × (N < 2 ^ 53 * d)
  inside = by s
    where
      by : (s : Bool) → (2 ^ 52 * d ≤ shifted s (M * d) a) × (shifted s (M * d) a < 2 ^ 53 * d)
      by true = omega arith
      by false = omega arith

  sum_is : sum ≡ round binary64 false N d
  sum_is = add_whole binary64 v magic s a d M k.some (omega arith) k.value (refl, refl)

  sum_whole : HasValue sum false q 1
  sum_whole = rw sum_is (integer_value binary64 false N d k.some inside.0 inside.1)

  sum_bits : to_bits binary64 sum ≡ 1074 * 2 ^ 52 + q
  sum_bits = rw sum_is (integer_bits binary64 false N d k.some inside.0 inside.1)

  pub sum_real : T (not (is_nan sum))
  sum_real = value_real sum false q 1 sum_whole

  back : HasValue (sub binary64 sum magic) (ltb q M) (gap q M) 1
  back =
      let l = closest_ge N d (2 ^ 52) k.some inside.0 in
      let h = closest_le N d (2 ^ 53) k.some inside.1 in
      sub_whole binary64 sum magic q M (omega arith) (omega arith) sum_whole (refl, refl)

  rose : lt v (sub binary64 sum magic) ≡ ltb N (q * d)
  rose = lt_at v (sub binary64 sum magic) s (ltb q M) a d (gap q M) 1 k.some (lit< tt) k.value back ∙ rw (mul-one a) (less_by a d q (omega arith) s (ltb q M) refl)

  abbrev n : ℕ
  n = cut_by downward s a d

  greatest : Greatest s a d n
  greatest = cut_downward s a d k.some

  floor_is : to_signed 63 (floor_of v) ≡ cond s (neg_ℤ (pos n)) (pos n)
  floor_is =
      let l = floor_le a d n k.small s greatest in
      ap (to_signed 63) (whole_at downward v s a d k.some k.value) ∙ to_signed_whole 63 (round binary64 s n 1) s n (omega arith) (exact_at binary64 s n (omega arith))

  pub low_is : (r : ℕ) → r < 2 ^ 32 → (r + bool_byte (lt v (sub binary64 sum magic))) % 2 ^ 32 ≡ to_bits binary64 sum % 2 ^ 32 → r ≡ mod_z (to_signed 63 (floor_of v)) (2 ^ 32)
  low_is r h e =
      less (lt v (sub binary64 sum magic)) (to_bits binary64 sum) q (N / d) (rw rose (closest_rose N d k.some)) sum_bits e
      ∙ ap (λ (z : ℕ). z % 2 ^ 32) (greatest_div N d (shifted s M n) (on a d n k.small s greatest))
      ∙ low_of s n (floor_le a d n k.small s greatest)
      ∙ ap (λ (z : ℤ). mod_z z (2 ^ 32)) (sym floor_is)
    where
      less : (t : Bool) (b q w : ℕ) → q ≡ w + cond t 1 0 → b ≡ 1074 * 2 ^ 52 + q → (r + bool_byte t) % 2 ^ 32 ≡ b % 2 ^ 32 → r ≡ w % 2 ^ 32
      less true b q w x y z = omega arith
      less false b q w x y z = omega arith

-- ---- what the quick way gives
-- by the outcome of its test, of f as an f64
pub quick_by : {f g : Float} {b : Bool} → g ≡ f → quick_serves (v_of g) ≡ b → cond b (Some (mod_z (to_signed 63 (floor_of (v_of g))) (2 ^ 32))) None ≡ quick_of f
unfolding quick_of correction_of scaled_of
quick_by e p = rw (← e, p)

-- the fast way, by what the quick one gives: its step and that it served, or else the correction n and that it
-- did not
pub step_is : (f : Float) (n : ℕ) → quick_of f ≡ Some n → ◌≡◌ {A = Corrected} (record { step = n; quick = true }) (corrected_of f)
unfolding quick_of
step_is f n e = go (quick_serves (v_of f)) e
  where
    go : (t : Bool) → cond t (Some (correction_of f)) None ≡ Some n → ◌≡◌ {A = Corrected} (record { step = n; quick = true }) (record { step = correction_of f; quick = t })
    go true e = let z : n ≡ correction_of f = cc in rw z
    go false e = let z : ◌≡◌ {A = ℕ} 0 1 = cc in absurd (omega arith)

pub wide_is : (f : Float) (n : ℕ) → quick_of f ≡ None → n ≡ correction_of f → ◌≡◌ {A = Corrected} (record { step = n; quick = false }) (corrected_of f)
unfolding quick_of
wide_is f n e k = go (quick_serves (v_of f)) e
  where
    go : (t : Bool) → cond t (Some (correction_of f)) None ≡ None → ◌≡◌ {A = Corrected} (record { step = n; quick = false }) (record { step = correction_of f; quick = t })
    go true e = let z : ◌≡◌ {A = ℕ} 0 1 = cc in absurd (omega arith)
    go false e = rw k
