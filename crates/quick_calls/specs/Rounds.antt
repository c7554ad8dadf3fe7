-- Request 7's claim for racks: no correction takes the wide way, over every list of rounds from fresh f32 decoders.
-- Source: document 02, request 7. Definitions only. proofs/Rounds.antt proves it.
use Rattle.std.specs.Prelude.{true, List, map, ◌≡◌, Float}
use Rattle.answers.specs.Answer.{made}
use Rattle.decoder_record.specs.State.{Pll}
use Rattle.decoder_record.specs.Fresh.{new_f32_of}
use Rattle.decoder.specs.F32.{f32}
use Rattle.rack_round.specs.Round.{Queue}
use Rattle.rack_round.specs.Wide.{round_wide}
use Rattle.calls.specs.Events.{unit_table}
use Rattle.rounds.specs.Rounds.{Asked, after}
use Rattle.rounds.specs.Fit.{All}
use Rattle.quick_calls.specs.Quiet.{moderate, unit}

-- construction made it, from some arguments, and its gains are moderate
abbrev pub Fresh : Pll Float → Type 0
Fresh d =
    (pilot : Float) × (natural : Float) × (level : Float) × (beta : Float) × (rate : Float)
    × (new_f32_of pilot natural level beta rate ≡ made d) × (moderate d.gains ≡ true)

-- each entry of the round's table, and each pilot sample that waits, is in -1..=1
abbrev pub UnitRound : Asked Float → Type 0
UnitRound a = (unit_table a.table ≡ true) × All (λ (q : Queue Float). All (λ (p : Float). unit p ≡ true) q.pilot) a.queues

-- after every list of such rounds one more of them counts 0 at every place
pub record QuietRounds : Type 0 where
  pub quiet : (ds : List (Pll Float)) (cs : List (Asked Float)) (c : Asked Float) → All Fresh ds → All UnitRound cs → UnitRound c
      → round_wide c.number c.allowance c.table (after f32 ds cs) c.queues ≡ map (λ q. 0) c.queues
