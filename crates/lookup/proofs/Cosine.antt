-- The f32 lookup as the code works it out: the fraction of a phase, and the entry a quarter of a turn back.
-- Assumes nothing.
use Rattle.std.proofs.Common.{◌≡◌, ℕ, ◌+◌, ◌/◌, ◌%◌, ◌^◌, ◌<◌, ◌≤◌, false, T, List, length, get_or, pos, refl, ap, ◌∙◌, lt_of_lt_of_le, mod-lt, mul-one, arith, lit<, lit≤, le→leb, le-ltb, lt-ltb}
use lib.Ieee.{Float, nan, fin, binary32, round, add, sub, mul, of_int, of_bits, in_float}
use Rattle.rounding.proofs.Round.{exact_at}
use Rattle.rounding.proofs.Value.{mul_at}
use Rattle.lookup.specs.Lookup.{sine_at, cos_f32}

-- 2^-20 as an f32
abbrev unit : Float
unit = of_bits binary32 897581056

pub frac_cast : (p : ℕ) → T (in_float binary32 (pos (p % 1048576)))
unfolding in_float
frac_cast p = le→leb (p % 1048576) 16777216 (omega arith)

-- an f32 holds the integer exactly, so the product is rounded once, as the definition's quotient is
pub frac_is : (n : ℕ) → n < 2 ^ 20 → mul binary32 (of_int binary32 (pos n)) unit ≡ round binary32 false n (2 ^ 20)
unfolding of_int of_bits
frac_is n h =
    mul_at binary32 (round binary32 false n 1) unit false false n 1 1 (2 ^ 20) (lit< tt) (lit< tt) (exact_at binary32 false n (lt_of_lt_of_le h (lit≤ tt))) (refl, refl)
    ∙ ap (λ (z : ℕ). round binary32 false z (2 ^ 20)) (mul-one n)

-- the index i and the fraction n may come from another phase, as the pair's sine has them
module _ (t : List Float) (p : ℕ) {i : ℕ} (at : p / 2 ^ 20 ≡ i) where
  pub cos_f32_at : {n : ℕ} → p % 2 ^ 20 ≡ n → i + 1 < length t → add binary32 (get_or t i nan) (mul binary32 (sub binary32 (get_or t (i + 1) nan) (get_or t i nan)) (mul binary32 (of_int binary32 (pos n)) unit)) ≡ cos_f32 t p
  unfolding cos_f32
  cos_f32_at f h = rw (← f, frac_is (p % 2 ^ 20) (mod-lt p (lit< tt)), at, lt-ltb (i + 1) (length t) h)

  pub cos_f32_lacks : length t ≤ i + 1 → fin false 0 (pos 0) ≡ cos_f32 t p
  unfolding cos_f32
  cos_f32_lacks h = rw (at, le-ltb (i + 1) (length t) h)

-- a quarter of a turn back is 3072 entries on, with the same fraction
pub sine_index : (p : ℕ) → p < 2 ^ 32 → sine_at 1 p / 2 ^ 20 ≡ (p / 2 ^ 20 + 3072) % 4096
sine_index p h = omega arith

pub sine_frac : (p : ℕ) → p < 2 ^ 32 → sine_at 1 p % 2 ^ 20 ≡ p % 2 ^ 20
sine_frac p h = omega arith
