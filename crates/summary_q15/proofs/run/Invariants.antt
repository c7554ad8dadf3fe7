use Rattle.decoder_record_q15.specs.Records.{pll_of_q15}
use Rattle.decoder_q15.specs.Q15.{q15}
use Rattle.summary_call.proofs.Noting.{Noting}
use Rattle.summary_record.specs.Q15.{unsigned_q15}
use Rattle.summary_record.proofs.Negative.{unsigned_q15_lem}
use Rattle.summary_q15.proofs.run.Given as goal

abbrev pub invariant-loop-i : goal.invariant-loop-i
invariant-loop-i l =
    Noting q15 unsigned_q15 unsigned_q15_lem l.table l.mpx l.pilot (pll_of_q15 l.initial.st) (record { counts = l.initial.counts; magnitude = l.initial.magnitude }) l.i l.k l.sum l.difference
    (record { stereo = l.stereos; mono = l.monos; changes = l.changes; magnitude = l.magnitudes }) (pll_of_q15 l.st) (record { counts = l.counts; magnitude = l.magnitude })
