-- The digits of an f64, by the fields of its pattern. Assumes nothing.
use Prim.Native.Nat.{ℕ, ◌+◌, ◌/◌, ◌%◌, ◌^◌, ◌≤◌, ◌<◌}
use mathlib.Core.Path.{◌≡◌, sym, ap}
use native.Mathlib.Omega.{arith}
use native.Mathlib.Nat.{mod-lt}
use lib.Dec.{lit<}
use lib.Ieee.{binary64}
use Rattle.rounding.specs.Pattern.{field, sig, digits}
use Rattle.rounding.proofs.Pattern.{sig_is, sig_lt}

pub digits_low : (b : ℕ) → b % 9223372036854775808 < 4503599627370496 → b % 4503599627370496 ≡ digits binary64 b
digits_low b h = ap (λ (z : ℕ). sig binary64 z (b % 4503599627370496)) (sym (none b h))
  where
    none : (b : ℕ) → b % 9223372036854775808 < 4503599627370496 → b % 9223372036854775808 / 4503599627370496 ≡ 0
    none b h = omega arith

pub digits_high : (b : ℕ) → 4503599627370496 ≤ b % 9223372036854775808 → 4503599627370496 + b % 4503599627370496 ≡ digits binary64 b
digits_high b h = sym (sig_is (field binary64 b) (b % 4503599627370496) (some b h))
  where
    some : (b : ℕ) → 4503599627370496 ≤ b % 9223372036854775808 → 0 < b % 9223372036854775808 / 4503599627370496
    some b h = omega arith

pub digits_lt : (b : ℕ) → digits binary64 b < 2 ^ 53
digits_lt b = sig_lt binary64 (field binary64 b) (b % 4503599627370496) (mod-lt b (lit< tt))
