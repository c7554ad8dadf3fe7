use Rattle.decoder_record_q15.specs.Records.{pll_of_q15}
use Rattle.decoder_q15.proofs.Kept.{GoingFit}
use Rattle.decoder_q15.proofs.plain.run.Given as goal

abbrev pub invariant-loop-i : goal.invariant-loop-i
invariant-loop-i l = GoingFit l.table l.mpx l.pilot (pll_of_q15 l.initial.st) l.i l.sum l.difference (pll_of_q15 l.st)
