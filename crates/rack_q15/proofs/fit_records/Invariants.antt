use mathlib.Core.Path.{◌≡◌}
use mathlib.Core.List.{map}
use lib.ListN.{length, take}
use Rattle.decoder_record_q15.specs.Records.{pll_of_q15}
use Rattle.decoder_record_q15.specs.Fit.{fit_q15}
use Rattle.rack_q15.proofs.fit_records.Given as goal

abbrev pub invariant-loop-k : goal.invariant-loop-k
invariant-loop-k l =
    (length l.decoders ≡ 8) × (length l.fit ≡ 8) × (take l.k l.fit ≡ map (λ d. fit_q15 (pll_of_q15 d)) (take l.k l.decoders))
