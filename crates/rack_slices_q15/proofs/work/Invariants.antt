use Rattle.decoder_record_q15.specs.Records.{pll_of_q15}
use Rattle.decoder_q15.specs.Q15.{q15}
use Rattle.rack_slices_round.proofs.Lending.{Lending}
use Rattle.rack_slices_q15.proofs.work.Given as goal

abbrev pub invariant-loop-k : goal.invariant-loop-k
invariant-loop-k l =
    Lending q15 pll_of_q15 l.share l.table l.initial.next l.mpx l.pilot l.initial.sum l.initial.difference l.waiting l.number l.k l.sum l.difference l.next
