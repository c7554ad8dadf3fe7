use Rattle.pilot_scan.proofs.Loops.{FiniteFrom}
use Rattle.pilot_scan.proofs.scan.Given as goal

abbrev pub invariant-loop-i : goal.invariant-loop-i
invariant-loop-i l = FiniteFrom l.pilot l.i
