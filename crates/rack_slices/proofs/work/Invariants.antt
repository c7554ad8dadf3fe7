use mathlib.Core.List.{map}
use Rattle.decoder_record.specs.Records.{pll_of_f32}
use Rattle.decoder.specs.F32.{f32}
use Rattle.rack_round.proofs.Wide.{Wides}
use Rattle.rack_slices_round.specs.Slices.{queues_at}
use Rattle.rack_slices_round.proofs.Lending.{slices_in, Lending}
use Rattle.rack_slices.proofs.work.Given as goal

abbrev pub invariant-loop-k : goal.invariant-loop-k
invariant-loop-k l =
    Lending f32 pll_of_f32 l.share l.table l.initial.next l.mpx l.pilot l.initial.sum l.initial.difference l.waiting l.number l.k l.sum l.difference l.next
    × Wides l.share l.table (map pll_of_f32 l.initial.next) (queues_at (slices_in l.mpx l.pilot l.initial.sum l.initial.difference)) l.k l.wide
