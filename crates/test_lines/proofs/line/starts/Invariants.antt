use Rattle.test_lines.proofs.Reading.{Agrees}
use Rattle.test_lines.proofs.line.starts.Given as goal

abbrev pub invariant-loop-i : goal.invariant-loop-i
invariant-loop-i l = Agrees l.line l.name l.i
