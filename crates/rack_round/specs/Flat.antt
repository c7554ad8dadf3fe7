-- A round whose queues lie one behind the other in four flat lists. Source: document 02, request 6; that they lie
-- so is our own choice (docs/DECISIONS.md). Definitions only.
use Rattle.std.specs.Prelude.{ℕ, List, [], ◌∷◌, ◌++◌, map, take, drop}
use Rattle.answers.specs.Answer.{Said}
use Rattle.decoder_record.specs.State.{Pll}
use Rattle.decoder.specs.Machine.{Arithmetic}
use Rattle.rack_waiting.specs.Beside.{beside, over}
use Rattle.rack_waiting.specs.declared.Waiting.{Waiting}
use Rattle.rack_round.specs.Round.{Queue, turn_of, round_of}

module _ {A : Type 0} where
  -- the front of each list, and what lies past it
  abbrev pub front_of : Waiting → Queue A → Queue A
  front_of w q = record {
    mpx = take w.mpx q.mpx;
    pilot = take w.pilot q.pilot;
    sum = take w.sum q.sum;
    difference = take w.difference q.difference;
  }

  abbrev pub past_of : Waiting → Queue A → Queue A
  past_of w q = record {
    mpx = drop w.mpx q.mpx;
    pilot = drop w.pilot q.pilot;
    sum = drop w.sum q.sum;
    difference = drop w.difference q.difference;
  }

  -- the queues: each begins where the one before ends, and one that would pass a list's end is cut off there
  unfoldable pub queues_of : List Waiting → Queue A → List (Queue A)
  queues_of [] flat = []
  queues_of (w ∷ ws) flat = front_of w flat ∷ queues_of ws (past_of w flat)

  -- one list after the other
  abbrev pub joined : List (List A) → List A
  joined [] = []
  joined (l ∷ ls) = l ++ joined ls

-- what a round answers and leaves in the flat lists; they stay past the queues
pub record Flat (A : Type 0) : Type 0 where
  pub said : Said
  pub taken : List ℕ
  pub sum : List A
  pub difference : List A
  pub decoders : List (Pll A)

module _ {A : Type 0} (F : Arithmetic A) where
  unfoldable pub flat_of : ℕ → ℕ → List A → List (Pll A) → List Waiting → Queue A → Flat A
  flat_of number allowance t ds ws flat =
      let r = round_of F number allowance t ds (queues_of ws flat) in
      record {
        said = r.said;
        taken = r.taken;
        sum = over (joined r.sums) flat.sum;
        difference = over (joined r.differences) flat.difference;
        decoders = r.decoders;
      }

-- ---- for the loop over an accepted round's decoders: what the first n of them leave
pub record Worked (A : Type 0) : Type 0 where
  pub sum : List A
  pub difference : List A
  pub decoders : List (Pll A)

module _ {A : Type 0} (F : Arithmetic A) where
  unfoldable pub worked_of : ℕ → List A → ℕ → List (Pll A) → List Waiting → Queue A → Worked A
  worked_of n t share ds ws flat =
      let turns = beside (turn_of F t share) n ds (queues_of ws flat) in
      record {
        sum = over (joined (map (λ u. u.sum) turns)) flat.sum;
        difference = over (joined (map (λ u. u.difference) turns)) flat.difference;
        decoders = over (map (λ u. u.pll) turns) ds;
      }
