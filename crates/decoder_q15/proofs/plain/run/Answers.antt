-- `plain_q15::run` meets its contract. The invariant: the samples before i are done, and the state is fit.
-- Assumes nothing.
use native.Mathlib.Omega.{arith}
use mir.Syntax.{w16}
use Rattle.rounding.proofs.Lin.{back}
use Rattle.decoder_q15.specs.Q15.{q15}
use Rattle.decoder.proofs.Loops.{going_start, going_end}
use Rattle.decoder_q15.proofs.Kept.{going_fit_next}
use Rattle.decoder_q15.proofs.plain.run.Goals as goal

pub loop-i-init : goal.loop-i-init
loop-i-init c = (going_start q15 _ _ _ _ c.requires.1 c.requires.2, c.requires.3)

pub step-o-requires : goal.step-o-requires
step-o-requires c = c.loop-i.invariant.1

pub loop-i-preserved : goal.loop-i-preserved
loop-i-preserved c =
    going_fit_next _ _ _ _ c.loop-i.invariant c.loop-i-test.true (back w16 _ c.x-1.given) c.p-1.given (back w16 _ c.p-1.given) (rw (back w16 c.step-o.result.difference c.struct_told-1.given.1.0.1) c.step-o.ensures)

pub returns : goal.returns
returns c = going_end q15 _ _ _ _ c.loop-i.invariant.0 (omega arith)
