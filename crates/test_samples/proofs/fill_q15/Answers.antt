-- `test_samples::fill_q15` meets its contract. Assumes nothing.
use mir.Syntax.{w16}
use Rattle.rounding.proofs.Lin.{back}
use mathlib.Core.Path.{refl, ◌∙◌}
use native.Mathlib.Omega.{arith}
use Rattle.answers.proofs.Samples.{filled_start, filled_next, filled_end}
use Rattle.test_samples.proofs.fill_q15.Goals as goal

pub loop-i-init : goal.loop-i-init
loop-i-init c = filled_start refl

pub loop-i-preserved : goal.loop-i-preserved
loop-i-preserved c =
    let w = c.loop-i.invariant in
    let s = c.sample_q15 in
    filled_next w (omega (arith, w.size)) (back w16 s.result s.type_inv ∙ s.ensures)

pub returns : goal.returns
returns c = let w = c.loop-i.invariant in filled_end w c.loop-i.auto.i-end (omega (arith, w.size))
