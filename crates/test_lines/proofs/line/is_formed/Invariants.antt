use Rattle.test_lines.proofs.Reading.{Standing}
use Rattle.test_lines.proofs.line.is_formed.Given as goal

abbrev pub invariant-loop-k : goal.invariant-loop-k
invariant-loop-k l = Standing l.line l.at l._k
