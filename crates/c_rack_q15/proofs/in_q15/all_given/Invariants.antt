use mathlib.Core.Path.{◌≡◌}
use mathlib.Core.List.{map}
use lib.ListN.{length, take}
use Rattle.decoder_record_q15.specs.Records.{pll_of_q15}
use Rattle.c_decoder.specs.Coded.{given_of}
use Rattle.c_decoder_q15.specs.CodedQ15.{decoder_of_q15}
use Rattle.c_rack_q15.proofs.in_q15.all_given.Given as goal

abbrev pub invariant-loop-k : goal.invariant-loop-k
invariant-loop-k l =
    (length l.records ≡ 8) × (length l.decoders ≡ 8) × (take l.k (map decoder_of_q15 l.decoders) ≡ map (λ t. given_of (pll_of_q15 t)) (take l.k l.records))
