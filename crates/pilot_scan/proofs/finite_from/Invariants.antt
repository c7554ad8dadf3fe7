use Rattle.pilot_scan.proofs.Loops.{FiniteFrom}
use Rattle.pilot_scan.proofs.finite_from.Given as goal

abbrev pub invariant-loop-end : goal.invariant-loop-end
invariant-loop-end l = FiniteFrom l.pilot l.end

abbrev pub decreases-loop-end : goal.decreases-loop-end
decreases-loop-end l = l.end
