use Rattle.std.proofs.Common.{sym}
use Rattle.phase.proofs.Quick.{step_is, wide_is}
use Rattle.phase.proofs.correction.correction_fast.Goals as goal

pub returns-in-Some : goal.returns-in-Some
returns-in-Some c = step_is c.args.f c.in-Some.step (sym c.in-Some.ensures)

pub returns-in-None : goal.returns-in-None
returns-in-None c = wide_is c.args.f c.correction_plain.result (sym c.in-None.ensures) c.correction_plain.ensures
