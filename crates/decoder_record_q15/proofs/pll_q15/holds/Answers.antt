use Prim.Native.Nat.{◌+◌, ◌*◌, ◌^◌}
use mathlib.Core.Path.{◌≡◌, refl}
use mathlib.Core.Bool.{Bool, true, false, cond}
use native.Mathlib.Omega.{arith}
use native.Mathlib.Nat.{mul-pos}
use borrow.Author.Tests.{lt-ltb}
use lib.Dec.{ltb, lit<}
use lib.Ieee.{Float, nan, inf, fin, up, down, of_bits, lt, neg}
use lib.Ieee.Fits.{down_pos}
use Rattle.floats.specs.Floats.{abs_of}
use Rattle.decoder_gains.specs.Gains.{power}
use Rattle.decoder_record_q15.proofs.pll_q15.holds.Goals as goal

-- one of the two tests is plain by the sign
two_tests : (x : Float) → cond (lt x (power 63)) (lt (neg (power 63)) x) false ≡ lt (abs_of x) (power 63)
unfolding lt neg
two_tests nan = refl
two_tests (inf true) = refl
two_tests (inf false) = refl
two_tests (fin false m e) = rw (lt-ltb 0 (2 ^ 63 * down e + m * up e * 1) (omega (arith, mul-pos (lit< {m = 0} {n = 2 ^ 63} tt) (down_pos e)))) (go (ltb (m * up e * 1) (2 ^ 63 * down e)))
  where
    go : (t : Bool) → cond t true false ≡ t
    go true = refl
    go false = refl
two_tests (fin true m e) = rw (lt-ltb 0 (m * up e * 1 + 2 ^ 63 * down e) (omega (arith, mul-pos (lit< {m = 0} {n = 2 ^ 63} tt) (down_pos e))))

by_test : {v w : Float} {t : Bool} → v ≡ w → lt v (power 63) ≡ t → cond t (lt (neg (power 63)) v) false ≡ lt (abs_of w) (power 63)
by_test {v} e h = rw (← h, ← e) (two_tests v)

pub returns-then-v : goal.returns-then-v
unfolding of_bits
returns-then-v c = by_test c.floor_f64-v.ensures c.if-v.true

pub returns-else-v : goal.returns-else-v
unfolding of_bits
returns-else-v c = by_test c.floor_f64-v.ensures c.if-v.false
