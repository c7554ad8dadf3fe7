-- A construction that is accepted makes the fresh record. Assumes nothing.
use mathlib.Core.Path.{◌≡◌}
use mathlib.Core.Bool.{true}
use lib.Ieee.{Float}
use Rattle.answers.specs.Answer.{accepts, first_cause, made}
use Rattle.answers.proofs.Causes.{built_out}
use Rattle.decoder_gains.specs.Gains.{gains_of, causes}
use Rattle.decoder_record.specs.State.{Pll}
use Rattle.decoder_record.specs.Fresh.{fresh_f32, new_f32_of}

-- the causes let it pass, and it is the fresh one
pub made_f32 : (pilot natural level beta rate : Float) (d : Pll Float) → new_f32_of pilot natural level beta rate ≡ made d
    → (accepts (first_cause (causes pilot natural level beta rate)) ≡ true) × (fresh_f32 (gains_of pilot natural level beta rate) ≡ d)
unfolding new_f32_of
made_f32 pilot natural level beta rate d h = built_out (first_cause (causes pilot natural level beta rate)) (fresh_f32 (gains_of pilot natural level beta rate)) h
