-- So far the lines of the first k functions are written.
use Rattle.std.specs.Io.KnownBytes.{Appends}
use Rattle.test_tally.specs.Tallies.{counts_text}
use Rattle.test_tally.proofs.tally.report.Given as goal

abbrev pub invariant-loop-k : goal.invariant-loop-k
invariant-loop-k g l = Appends (g.W.Write.contents l.initial.out) (g.W.Write.contents l.out) (counts_text l.t l.names l.k)
