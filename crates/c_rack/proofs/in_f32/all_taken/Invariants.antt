use mathlib.Core.Path.{◌≡◌}
use mathlib.Core.List.{map}
use lib.ListN.{length, take}
use Rattle.decoder_record.specs.Records.{pll_of_f32}
use Rattle.c_decoder.specs.Coded.{decoder_of_f32, taken_of}
use Rattle.c_rack.proofs.in_f32.all_taken.Given as goal

abbrev pub invariant-loop-k : goal.invariant-loop-k
invariant-loop-k l =
    (length l.decoders ≡ 8) × (length l.records ≡ 8) × (take l.k (map pll_of_f32 l.records) ≡ map (λ d. taken_of (decoder_of_f32 d)) (take l.k l.decoders))
