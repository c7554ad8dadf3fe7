-- Request 6's claim for Q15: no list of rounds from fresh decoders leaves an unfit record. Source: document 02,
-- request 6. Definitions only. proofs/Claims.antt proves it.
use Rattle.std.specs.Prelude.{true, List, [], ◌∷◌, ◌≡◌, ℤ, Float}
use Rattle.std.specs.Int.{w16}
use Rattle.std.proofs.Common.{SFits}
use Rattle.answers.specs.Answer.{made}
use Rattle.decoder_record.specs.State.{Pll}
use Rattle.decoder_record_q15.specs.Fit.{fit_q15}
use Rattle.decoder_record_q15.specs.Fresh.{new_q15_of}
use Rattle.decoder_q15.specs.Q15.{q15}
use Rattle.rack_round.specs.Round.{Queue}
use Rattle.rounds.specs.Rounds.{Asked, after}

-- P of each element
abbrev pub All : {X : Type 0} → (X → Type 0) → List X → Type 0
All P [] = Unit {0}
All P (x ∷ xs) = P x × All P xs

-- construction made it, from some arguments
abbrev pub Fresh : Pll ℤ → Type 0
Fresh d = (pilot : Float) × (natural : Float) × (level : Float) × (beta : Float) × (rate : Float) × (new_q15_of pilot natural level beta rate ≡ made d)

abbrev pub Fit : Pll ℤ → Type 0
Fit d = fit_q15 d ≡ true

-- every pilot sample is an i16, which a program's slice cannot help (the logic's lists hold any ℤ)
abbrev pub Pilots16 : Asked ℤ → Type 0
Pilots16 a = All (λ (q : Queue ℤ). All (SFits w16) q.pilot) a.queues

pub record FitAlways : Type 0 where
  pub fit : (ds : List (Pll ℤ)) (cs : List (Asked ℤ)) → All Fit ds → All Pilots16 cs → All Fit (after q15 ds cs)
  pub fresh : (ds : List (Pll ℤ)) (cs : List (Asked ℤ)) → All Fresh ds → All Pilots16 cs → All Fit (after q15 ds cs)
