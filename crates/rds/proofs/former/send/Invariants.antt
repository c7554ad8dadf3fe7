use Rattle.rds.proofs.Codes.{Sending}
use Rattle.rds.proofs.former.send.Given as goal

abbrev pub invariant-loop-n : goal.invariant-loop-n
invariant-loop-n l = Sending l.previous 26 l.x l.n l.last l.output
