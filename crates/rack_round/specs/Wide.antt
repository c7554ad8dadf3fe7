-- How many corrections of each decoder took the wide way in a round of f32 decoders. Source: document 02, request
-- 7: "the rack (one count a decoder)". Definitions only.
use Rattle.std.specs.Prelude.{ℕ, ◌/◌, List, [], map, length, take, Float}
use Rattle.answers.specs.Answer.{kept}
use Rattle.counted.specs.Counted.{number_in}
use Rattle.decoder_record.specs.State.{Pll}
use Rattle.decoder.specs.F32.{f32}
use Rattle.decoder_fast.specs.Wide.{count_f32}
use Rattle.rack_waiting.specs.Beside.{beside, over}
use Rattle.rack_waiting.specs.Waiting.{takes_of, round_says}
use Rattle.rack_round.specs.Round.{Queue, waiting_of}

-- one decoder's turn by itself: what its block on the samples that it takes counts
unfoldable pub turn_wide : List Float → ℕ → Pll Float → Queue Float → ℕ
turn_wide t share d q =
    let n = takes_of share (waiting_of q) in
    number_in (count_f32 d t (take n q.mpx) (take n q.pilot) (take n q.sum) (take n q.difference))

-- a round: each of the first decoders' own; 0 past the number, and everywhere in a refused round
unfoldable pub round_wide : ℕ → ℕ → List Float → List (Pll Float) → List (Queue Float) → List ℕ
round_wide number allowance t ds qs =
    let said = round_says number allowance (length t) (map f32.fit ds) (map waiting_of qs) in
    over (kept said (beside (turn_wide t (allowance / number)) number ds qs) []) (map (λ q. 0) qs)
