use Prim.Native.Nat.{◌-◌}
use mathlib.Core.Path.{sym, ◌∙◌}
use native.Mathlib.Omega.{arith}
use Rattle.answers.proofs.Tests.{passed_plain}
use Rattle.pilot_scan.proofs.Loops.{from_end, from_start}
use Rattle.pilot_scan.proofs.finite_from.Goals as goal

pub loop-end-init : goal.loop-end-init
loop-end-init c = from_end c.args.pilot.now

pub returns-then-not-all_finite : goal.returns-then-not-all_finite
returns-then-not-all_finite c = c.loop-end.invariant

pub loop-end-preserved : goal.loop-end-preserved
loop-end-preserved c =
    let at = c in
    from_start at.args.pilot.now (at.loop-end.end - 32) at.loop-end.end (omega arith) at.loop-end.invariant (passed_plain c.all_finite.ensures c.if-not-all_finite.false)

pub returns-then-all_finite : goal.returns-then-all_finite
returns-then-all_finite c =
    let at = c in
    from_start at.args.pilot.now 0 at.loop-end.end (omega arith) at.loop-end.invariant (sym c.all_finite-2.ensures ∙ c.if-all_finite.true)

pub returns : goal.returns
returns c = c.loop-end.invariant
