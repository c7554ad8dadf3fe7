use mathlib.Core.Path.{◌≡◌}
use mathlib.Core.List.{map}
use lib.ListN.{length, take}
use Rattle.decoder_record.specs.Records.{pll_of_f32}
use Rattle.c_decoder.specs.Coded.{decoder_of_f32, given_of}
use Rattle.c_rack.proofs.in_f32.all_given.Given as goal

abbrev pub invariant-loop-k : goal.invariant-loop-k
invariant-loop-k l =
    (length l.records ≡ 8) × (length l.decoders ≡ 8) × (take l.k (map decoder_of_f32 l.decoders) ≡ map (λ t. given_of (pll_of_f32 t)) (take l.k l.records))
