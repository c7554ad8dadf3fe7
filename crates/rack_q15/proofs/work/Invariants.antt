use mathlib.Core.Path.{◌≡◌}
use mathlib.Core.List.{map}
use lib.ListN.{length}
use Rattle.decoder_record_q15.specs.Records.{pll_of_q15}
use Rattle.decoder_q15.specs.Q15.{q15}
use Rattle.rack_round.proofs.Working.{Working}
use Rattle.rack_q15.proofs.work.Given as goal

abbrev pub invariant-loop-k : goal.invariant-loop-k
invariant-loop-k l =
    (length l.parts ≡ 8) × (length l.initial.next ≡ 8) × (length l.next ≡ 8)
    × Working q15 l.share l.table (map pll_of_q15 l.initial.next) l.parts (record { mpx = l.mpx; pilot = l.pilot; sum = l.initial.sum; difference = l.initial.difference })
    l.number l.k l.a l.sum l.difference (map pll_of_q15 l.next)
