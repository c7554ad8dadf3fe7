use Prim.Native.Nat.{ℕ, ◌^◌, ◌<◌, ◌≤◌}
use mathlib.Core.Path.{◌≡◌, refl, sym}
use mathlib.Core.Bool.{false}
use native.Mathlib.Nat.{lt_of_lt_of_le, div-eq_of_lt}
use native.Mathlib.Omega.{arith}
use lib.Pow.{pow_mono}
use Rattle.rds_blocks.specs.Division.{bit}
use Rattle.rds_blocks.proofs.division.has_place.Goals as goal

-- a u32 has no place from z^32 on
none : (k x : ℕ) → x < 2 ^ 32 → 32 ≤ k → bit k x ≡ false
none k x h l = rw (div-eq_of_lt (lt_of_lt_of_le h (pow_mono l))) refl

pub returns-else-k-lt32 : goal.returns-else-k-lt32
returns-else-k-lt32 c = sym (none c.args.k c.args.x c.ranges.x.fits (omega arith))
