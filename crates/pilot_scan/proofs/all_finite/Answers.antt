use mathlib.Core.Path.{refl}
use Rattle.pilot_scan.proofs.Finite.{all_next, all_end}
use Rattle.pilot_scan.proofs.all_finite.Goals as goal

pub loop-x-init : goal.loop-x-init
loop-x-init c = refl

pub loop-x-preserved : goal.loop-x-preserved
loop-x-preserved c = all_next c.args.samples.now c.loop-x.x-index c.loop-x.ok c.is_finite_pattern-f.result c.loop-x-test.true c.loop-x.invariant c.is_finite_pattern-f.ensures

pub returns : goal.returns
returns c = all_end c.args.samples.now c.loop-x.x-index c.loop-x.ok c.loop-x.auto.x-index-end c.loop-x-test.false c.loop-x.invariant
