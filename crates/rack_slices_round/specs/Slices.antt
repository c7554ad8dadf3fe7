-- A round whose decoders have slices of their own: decoder k's are the k-th of four lists of slices. Source:
-- document 02, request 6; that they lie so is our own choice (docs/DECISIONS.md). Definitions only.
use Rattle.std.specs.Prelude.{ℕ, List, [], map, length, take, get_or}
use Rattle.std.specs.Borrow.{MutBor}
use Rattle.answers.specs.Answer.{Said}
use Rattle.answers.specs.Samples.{samples}
use Rattle.decoder_record.specs.State.{Pll}
use Rattle.decoder.specs.Machine.{Arithmetic}
use Rattle.rack_waiting.specs.Beside.{beside, over}
use Rattle.rack_round.specs.Round.{Queue, turn_of, round_of}

-- where the slices of a list lie in memory, which are lent to be written
abbrev pub addresses_of : {A : Type 0} → List (MutBor (List A)) → List (ℕ × ℕ)
addresses_of l = map (λ r. r.ref_ptr) l

-- four lists of slices
pub record Slices (A : Type 0) : Type 0 where
  pub mpx : List (List A)
  pub pilot : List (List A)
  pub sum : List (List A)
  pub difference : List (List A)

-- the eight queues; a slice that is not there counts as empty
abbrev pub queue_at : {A : Type 0} → Slices A → ℕ → Queue A
queue_at s k = record {
  mpx = get_or s.mpx k [];
  pilot = get_or s.pilot k [];
  sum = get_or s.sum k [];
  difference = get_or s.difference k [];
}

abbrev pub queues_at : {A : Type 0} → Slices A → List (Queue A)
queues_at s = samples 8 (queue_at s)

-- slices with new ones in place of the first, as far as both go
abbrev pub within : {A : Type 0} → List (List A) → List (List A) → List (List A)
within new old = over (take (length old) new) old

-- what a round answers and leaves in the slices
pub record Sliced (A : Type 0) : Type 0 where
  pub said : Said
  pub taken : List ℕ
  pub sum : List (List A)
  pub difference : List (List A)
  pub decoders : List (Pll A)

module _ {A : Type 0} (F : Arithmetic A) where
  unfoldable pub slices_of : ℕ → ℕ → List A → List (Pll A) → Slices A → Sliced A
  slices_of number allowance t ds s =
      let r = round_of F number allowance t ds (queues_at s) in
      record {
        said = r.said;
        taken = r.taken;
        sum = within r.sums s.sum;
        difference = within r.differences s.difference;
        decoders = r.decoders;
      }

-- ---- for the loop over an accepted round's decoders: what the first n of them leave
pub record Worked (A : Type 0) : Type 0 where
  pub sum : List (List A)
  pub difference : List (List A)
  pub decoders : List (Pll A)

module _ {A : Type 0} (F : Arithmetic A) where
  unfoldable pub worked_of : ℕ → List A → ℕ → List (Pll A) → Slices A → Worked A
  worked_of n t share ds s =
      let turns = beside (turn_of F t share) n ds (queues_at s) in
      record {
        sum = within (map (λ u. u.sum) turns) s.sum;
        difference = within (map (λ u. u.difference) turns) s.difference;
        decoders = over (map (λ u. u.pll) turns) ds;
      }
