-- The two tests of `flush_denormal` are its definition. Assumes nothing.
use Rattle.std.proofs.Common.{◌≡◌, ◌+◌, ◌*◌, ◌^◌, true, false, cond, pos, refl, mul-pos, arith, lit<, lt-ltb}
use lib.Ieee.{Float, nan, inf, fin, up, down, round, lt, neg}
use lib.Ieee.Fits.{down_pos}
use Rattle.numbers.specs.Flush.{flush_of, tiny}

-- ---- |x| is below `tiny` exactly where x is below it and above its negative: one of the two tests is plain
-- by the sign
pub two_tests : (x : Float) → cond (lt x tiny) (cond (lt (neg tiny) x) (fin false 0 (pos 0)) x) x ≡ flush_of x
unfolding flush_of lt neg round
two_tests nan = refl
two_tests (inf true) = refl
two_tests (inf false) = refl
two_tests (fin false m e) = rw (lt-ltb 0 (332307 * down e + m * up e * 2 ^ 118) (omega (arith, mul-pos (lit< {m = 0} {n = 332307} tt) (down_pos e))))
two_tests (fin true m e) = rw (lt-ltb 0 (m * up e * 2 ^ 118 + 332307 * down e) (omega (arith, mul-pos (lit< {m = 0} {n = 332307} tt) (down_pos e))))
