use Rattle.test_lines.proofs.Reading.{Read}
use Rattle.test_lines.proofs.line.word.Given as goal

abbrev pub invariant-loop-i : goal.invariant-loop-i
invariant-loop-i l = Read l.line l.at l.value l.i
