-- A refusal's number is that of one of its causes, all below 100, so that 100 and it fit a u32. Assumes nothing.
use Prim.Native.Nat.{ℕ, ◌<◌}
use mathlib.Core.Path.{◌≡◌}
use lib.Ieee.{Float}
use Rattle.answers.specs.Answer.{first_cause, refused}
use Rattle.answers.proofs.Causes.{rule_below, first_below, refused_below}
use Rattle.decoder_gains.specs.Gains.{gains_of, causes}
use Rattle.decoder_record.specs.Fresh.{fresh_f32, new_f32_of}

module _ (pilot natural level beta rate : Float) where
  pub f32_below : {n : ℕ} → refused n ≡ new_f32_of pilot natural level beta rate → n < 100
  unfolding new_f32_of
  f32_below =
      let c = causes pilot natural level beta rate in
      refused_below 100 (first_cause c) (fresh_f32 (gains_of pilot natural level beta rate)) (first_below 100 c (simp rule_below))
