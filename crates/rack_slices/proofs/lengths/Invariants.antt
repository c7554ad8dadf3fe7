use Rattle.answers.proofs.Samples.{Filled}
use Rattle.rack_round.specs.Round.{waiting_of}
use Rattle.rack_slices_round.specs.Slices.{queue_at}
use Rattle.rack_slices_round.proofs.Lending.{slices_in}
use Rattle.rack_slices.proofs.lengths.Given as goal

abbrev pub invariant-loop-k : goal.invariant-loop-k
invariant-loop-k l =
    Filled 8 (λ i. waiting_of (queue_at (slices_in l.mpx l.pilot l.sum l.difference) i)) l.k l.waiting
