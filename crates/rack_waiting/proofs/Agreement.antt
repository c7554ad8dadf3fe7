-- In an accepted round the parts of the decoders agree. Assumes nothing.
use Prim.Native.Nat.{ℕ, zero, suc, ◌+◌, ◌-◌, ◌≤◌, ◌<◌, min}
use native.Mathlib.Numerals.{add-one}
use native.Mathlib.Omega.{arith}
use mathlib.Core.Path.{◌≡◌, refl}
use mathlib.Core.Bool.{Bool, true, ◌&&◌}
use mathlib.Core.List.{List, [], ◌∷◌}
use borrow.Author.Tests.{leb-true}
use lib.Dec.{leb}
use lib.ListN.{length, drop, get_or}
use lib.Seq.{drop-cons}
use Rattle.answers.specs.Answer.{accepts, rule, first_cause}
use Rattle.answers.proofs.Causes.{both, rule_passed}
use Rattle.answers.proofs.Tests.{and_out}
use Rattle.decoder.specs.Machine.{length_causes}
use Rattle.decoder.proofs.Loops.{lengths_equal}
use Rattle.rack_waiting.specs.declared.Waiting.{Waiting}
use Rattle.rack_waiting.specs.Beside.{beside}
use Rattle.rack_waiting.specs.Waiting.{cause_of, round_says, part_of, rest_of, parts_of}
use Rattle.rack_waiting.specs.Agreed.{Alike, Agreed, Even}

-- what an accepted round tells
pub record Accepted (number allowance table : ℕ) (fits : List Bool) (ws : List Waiting) : Type 0 where
  pub two : 2 ≤ number
  pub eight : number ≤ 8
  pub enough : number ≤ allowance
  pub own : accepts (first_cause (beside (cause_of table) number fits ws)) ≡ true

pub accepted_round : (number allowance table : ℕ) (fits : List Bool) (ws : List Waiting) → accepts (round_says number allowance table fits ws) ≡ true → Accepted number allowance table fits ws
accepted_round number allowance table fits ws h =
    let x = both (rule 21 (leb 2 number && leb number 8)) _ h in
    let n = and_out (leb 2 number) (leb number 8) (rule_passed 21 _ x.0) in
    let y = both (rule 22 (leb number allowance)) _ x.1 in
    record {
      two = leb-true 2 number n.0;
      eight = leb-true number 8 n.1;
      enough = leb-true number allowance (rule_passed 22 _ y.0);
      own = y.1;
    }

-- one decoder's lengths
pub own_lengths : (table : ℕ) (fit : Bool) (w : Waiting) → accepts (cause_of table fit w) ≡ true → (w.pilot ≡ w.mpx) × (w.sum ≡ w.mpx) × (w.difference ≡ w.mpx)
own_lengths table fit w h =
    let x = both (rule 0 fit) (first_cause (length_causes table w.mpx w.pilot w.sum w.difference)) h in
    let n = lengths_equal table w.mpx w.pilot w.sum w.difference x.1 in (n.0, n.1, n.2)

least_under : (a b c : ℕ) → min a b ≡ c → c ≤ b
least_under a b c e = omega arith

-- the rest of what is left is the same by the part that was cut off
rest_cut : (w left : Waiting) → rest_of (part_of w left) left ≡ rest_of w left
rest_cut w left = λ i. record {
  mpx = cut w.mpx left.mpx i;
  pilot = cut w.pilot left.pilot i;
  sum = cut w.sum left.sum i;
  difference = cut w.difference left.difference i;
}
  where
    cut : (a b : ℕ) → b - min a b ≡ b - a
    cut a b = omega arith

pub agreed_parts : (table : ℕ) (n : ℕ) (fits : List Bool) (ws : List Waiting) (left : Waiting) → n ≤ length fits
    → accepts (first_cause (beside (cause_of table) n fits (parts_of ws left))) ≡ true → Agreed n (parts_of ws left) left
unfolding Agreed beside parts_of
agreed_parts table zero fits ws left l h = tt
agreed_parts table (suc n) fits [] left l h = tt
agreed_parts table (suc n) [] (w ∷ ws) left l h = absurd (omega arith)
agreed_parts table (suc n) (fit ∷ fits) (w ∷ ws) left l h =
    let x = both (cause_of table fit (part_of w left)) _ h in
    let e = own_lengths table fit (part_of w left) x.0 in (
      record {
        pilot = e.0;
        sum = e.1;
        difference = e.2;
        in_mpx = least_under w.mpx left.mpx _ refl;
        in_pilot = least_under w.pilot left.pilot _ e.0;
        in_sum = least_under w.sum left.sum _ e.1;
        in_difference = least_under w.difference left.difference _ e.2;
      },
      rw (rest_cut w left) (agreed_parts table n fits ws (rest_of w left) (omega arith) x.1),
    )

-- the decoder at k, and those after it
agreed_cons : (n : ℕ) (w : Waiting) (ws : List Waiting) (left : Waiting) → Agreed (suc n) (w ∷ ws) left → Alike w left × Agreed n ws (rest_of w left)
unfolding Agreed
agreed_cons n w ws left h = h

pub agreed_next : (n k : ℕ) (ws : List Waiting) (left w : Waiting) → k < n → k < length ws → Agreed (n - k) (drop k ws) left
    → Alike (get_or ws k w) left × Agreed (n - (k + 1)) (drop (k + 1) ws) (rest_of (get_or ws k w) left)
agreed_next n k ws left w hn hw h =
    let e : n - k ≡ suc (n - (k + 1)) = omega arith in
    rw (add-one k) (agreed_cons (n - (suc k)) (get_or ws k w) (drop (suc k) ws) left (rw (e, drop-cons ws k w hw, add-one k) at h))

-- ---- decoders that have slices of their own
pub even_parts : (table : ℕ) (n : ℕ) (fits : List Bool) (ws : List Waiting) → n ≤ length fits
    → accepts (first_cause (beside (cause_of table) n fits ws)) ≡ true → Even n ws
unfolding Even beside
even_parts table zero fits ws l h = tt
even_parts table (suc n) fits [] l h = tt
even_parts table (suc n) [] (w ∷ ws) l h = absurd (omega arith)
even_parts table (suc n) (fit ∷ fits) (w ∷ ws) l h =
    let x = both (cause_of table fit w) _ h in (own_lengths table fit w x.0, even_parts table n fits ws (omega arith) x.1)

-- the decoder at k
pub even_at : (n k : ℕ) (ws : List Waiting) (w : Waiting) → k < n → k < length ws → Even n ws
    → let v = get_or ws k w in (v.pilot ≡ v.mpx) × (v.sum ≡ v.mpx) × (v.difference ≡ v.mpx)
unfolding Even
even_at zero k ws w hn hw h = absurd (omega arith)
even_at (suc n) k [] w hn hw h = absurd (omega arith)
even_at (suc n) zero (v ∷ ws) w hn hw h = h.0
even_at (suc n) (suc k) (v ∷ ws) w hn hw h = even_at n k ws w (omega arith) (omega arith) h.1
