use Rattle.std.proofs.Common.{arith}
use Rattle.answers.proofs.Tests.{passed_plain, failed_plain}
use Rattle.pilot_scan.proofs.Loops.{from_before, leaves, ends}
use Rattle.pilot_scan.proofs.scan.Goals as goal

pub returns-then-end-eq0 : goal.returns-then-end-eq0
returns-then-end-eq0 c = ends c.args.pilot.now c.finite_from-end.result (omega arith) c.finite_from-end.ensures

pub loop-i-init : goal.loop-i-init
loop-i-init c = c.finite_from-end.ensures

pub returns-then-not-is_finite_pattern : goal.returns-then-not-is_finite_pattern
returns-then-not-is_finite_pattern c = leaves c.args.pilot.now c.loop-i.i (omega arith) c.loop-i.invariant (failed_plain c.is_finite_pattern.ensures c.if-not-is_finite_pattern.true)

pub loop-i-preserved : goal.loop-i-preserved
loop-i-preserved c = from_before c.args.pilot.now c.loop-i.i (omega arith) c.loop-i.invariant (passed_plain c.is_finite_pattern.ensures c.if-not-is_finite_pattern.false)

pub returns : goal.returns
returns c = ends c.args.pilot.now c.loop-i.i c.loop-i-test.false c.loop-i.invariant
