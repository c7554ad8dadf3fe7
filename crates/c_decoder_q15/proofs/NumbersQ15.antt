-- A refusal's number is that of one of its causes, all below 100, so that 100 and it fit a u32. Assumes nothing.
use Prim.Native.Nat.{ℕ, ◌<◌}
use mathlib.Core.Path.{◌≡◌}
use mathlib.Core.List.{◌++◌}
use lib.Ieee.{Float}
use Rattle.answers.specs.Answer.{first_cause, refused}
use Rattle.answers.proofs.Causes.{rule_below, first_below, refused_below}
use Rattle.decoder_gains.specs.Gains.{gains_of, causes}
use Rattle.decoder_record_q15.specs.Fresh.{fresh_q15, causes_q15, new_q15_of}

module _ (pilot natural level beta rate : Float) where
  pub q15_below : {n : ℕ} → refused n ≡ new_q15_of pilot natural level beta rate → n < 100
  unfolding new_q15_of
  q15_below =
      let g = gains_of pilot natural level beta rate in
      let c = causes pilot natural level beta rate ++ causes_q15 g in
      refused_below 100 (first_cause c) (fresh_q15 g) (first_below 100 c (simp rule_below))
