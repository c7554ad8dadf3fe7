use mathlib.Core.Path.{◌≡◌}
use mathlib.Core.List.{map}
use lib.ListN.{length}
use lib.Ieee.{Float}
use Rattle.decoder_record.specs.Records.{pll_of_f32}
use Rattle.decoder.specs.F32.{f32}
use Rattle.rack_round.specs.Round.{Queue}
use Rattle.rack_round.specs.Flat.{queues_of}
use Rattle.rack_round.proofs.Working.{Working}
use Rattle.rack_round.proofs.Wide.{Wides}
use Rattle.rack.proofs.work.Given as goal

abbrev pub invariant-loop-k : goal.invariant-loop-k
invariant-loop-k l =
    let flat : Queue Float = record { mpx = l.mpx; pilot = l.pilot; sum = l.initial.sum; difference = l.initial.difference } in
    (length l.parts ≡ 8) × (length l.next ≡ 8)
    × Working f32 l.share l.table (map pll_of_f32 l.initial.next) l.parts flat l.number l.k l.a l.sum l.difference (map pll_of_f32 l.next)
    × Wides l.share l.table (map pll_of_f32 l.initial.next) (queues_of l.parts flat) l.k l.wide
