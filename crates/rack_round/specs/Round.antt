-- A round of a rack, over the format: two to eight decoders, one table, one allowance of samples. Source:
-- document 02, request 6. Definitions only.
use Rattle.std.specs.Prelude.{ℕ, ◌/◌, List, [], map, length, take}
use Rattle.answers.specs.Answer.{Said, kept}
use Rattle.decoder_record.specs.State.{Pll}
use Rattle.decoder.specs.Machine.{Arithmetic, block_of}
use Rattle.rack_waiting.specs.Beside.{beside, over}
use Rattle.rack_waiting.specs.Waiting.{takes_of, round_says}
use Rattle.rack_waiting.specs.declared.Waiting.{Waiting}

-- what a decoder brings to a round, its queue: the samples that wait, and what its two outputs hold
pub record Queue (A : Type 0) : Type 0 where
  pub mpx : List A
  pub pilot : List A
  pub sum : List A
  pub difference : List A

abbrev pub waiting_of : {A : Type 0} → Queue A → Waiting
waiting_of q = record {
  mpx = length q.mpx;
  pilot = length q.pilot;
  sum = length q.sum;
  difference = length q.difference;
}

-- what a decoder's turn leaves
pub record Turned (A : Type 0) : Type 0 where
  pub taken : ℕ
  pub sum : List A
  pub difference : List A
  pub pll : Pll A

-- what a round answers, how many samples each decoder took, and the outputs and records that it leaves
pub record Rounded (A : Type 0) : Type 0 where
  pub said : Said
  pub taken : List ℕ
  pub sums : List (List A)
  pub differences : List (List A)
  pub decoders : List (Pll A)

module _ {A : Type 0} (F : Arithmetic A) where
  -- one decoder by itself: its block on the samples that it takes; its outputs past these stay
  unfoldable pub turn_of : List A → ℕ → Pll A → Queue A → Turned A
  turn_of t share d q =
      let n = takes_of share (waiting_of q) in
      let b = block_of F d t (take n q.mpx) (take n q.pilot) (take n q.sum) (take n q.difference) in
      record {
        taken = n;
        sum = over b.sum q.sum;
        difference = over b.difference q.difference;
        pll = b.pll;
      }

  -- a round: each of the first decoders has a turn, with the allowance divided by their number, rounded down, for
  -- its share; a refused round has no turn
  unfoldable pub round_of : ℕ → ℕ → List A → List (Pll A) → List (Queue A) → Rounded A
  round_of number allowance t ds qs =
      let said = round_says number allowance (length t) (map F.fit ds) (map waiting_of qs) in
      let turns = kept said (beside (turn_of t (allowance / number)) number ds qs) [] in
      record {
        said = said;
        taken = over (map (λ u. u.taken) turns) (map (λ q. 0) qs);
        sums = over (map (λ u. u.sum) turns) (map (λ q. q.sum) qs);
        differences = over (map (λ u. u.difference) turns) (map (λ q. q.difference) qs);
        decoders = over (map (λ u. u.pll) turns) ds;
      }
