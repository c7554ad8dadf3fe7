-- `test_samples::fill_f32` meets its contract. Assumes nothing.
use mathlib.Core.Path.{refl}
use native.Mathlib.Omega.{arith}
use Rattle.answers.proofs.Samples.{filled_start, filled_next, filled_end}
use Rattle.test_samples.proofs.fill_f32.Goals as goal

pub loop-i-init : goal.loop-i-init
loop-i-init c = filled_start refl

pub loop-i-preserved : goal.loop-i-preserved
loop-i-preserved c =
    let w = c.loop-i.invariant in
    filled_next w (omega (arith, w.size)) c.sample_f32.ensures

pub returns : goal.returns
returns c = let w = c.loop-i.invariant in filled_end w c.loop-i.auto.i-end (omega (arith, w.size))
