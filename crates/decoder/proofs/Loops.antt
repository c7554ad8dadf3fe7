-- A decoder's loop and block, over the format: what a turn of the loop, its end, a refusal and an accepted
-- block have to show. Assumes nothing.
use Prim.Native.Nat.{ℕ, zero, suc, ◌+◌, ◌≤◌, ◌<◌}
use mathlib.Core.Path.{◌≡◌, refl, sym, ap, ◌∙◌}
use mathlib.Core.Bool.{true, false}
use mathlib.Core.List.{List, [], ◌∷◌}
use native.Mathlib.Nat.{not-suc-le-zero, le_of_suc-le-suc}
use native.Mathlib.Numerals.{add-one}
use native.Mathlib.Omega.{arith}
use lib.ListN.{length, get_or, set}
use Rattle.answers.specs.Answer.{Said, accepted, accepts, entries, first_cause}
use Rattle.answers.proofs.Samples.{Filled, filled_start, filled_next, filled_end}
use Rattle.answers.proofs.Causes.{each, length_is}
use Rattle.decoder_record.specs.State.{Pll}
use Rattle.decoder.specs.Machine.{Arithmetic, Stepped, Blocked, step_of, state_at, step_at, run_of, length_causes, block_says, block_of}

-- an element that is there does not turn on what stands for one that is not
pub any_default : {A : Type 0} (l : List A) (i : ℕ) (a b : A) → i < length l → get_or l i a ≡ get_or l i b
any_default [] i a b h = absurd (not-suc-le-zero h)
any_default (x ∷ l) zero a b h = refl
any_default (x ∷ l) (suc i) a b h = any_default l i a b (le_of_suc-le-suc h)

module _ {A : Type 0} (F : Arithmetic A) (t mpx pilot : List A) (d : Pll A) where
  -- the first i samples are done, and st is the state after them
  pub record Going (i : ℕ) (sum difference : List A) (st : Pll A) : Type 0 where
    pub below : i ≤ length mpx
    pub sums : Filled (length mpx) (λ k. (step_at F t mpx pilot d k).sum) i sum
    pub differences : Filled (length mpx) (λ k. (step_at F t mpx pilot d k).difference) i difference
    pub state : st ≡ state_at F t mpx pilot d i

  pub going_start : {sum difference : List A} → length sum ≡ length mpx → length difference ≡ length mpx → Going 0 sum difference d
  unfolding state_at
  going_start h k = record { below = omega arith; sums = filled_start h; differences = filled_start k; state = refl }

  -- one more sample: x, y and st' are what the step of the i-th samples gives
  pub going_next : {i : ℕ} {sum difference : List A} {st st' : Pll A} {x p y : A} → Going i sum difference st → i < length mpx
      → x ≡ get_or mpx i F.nought → p ≡ get_or pilot i F.nought → record { sum = x; difference = y; pll = st' } ≡ step_of F t st x p
      → Going (i + 1) (set sum i x) (set difference i y) st'
  unfolding state_at
  going_next {i} {sum} {difference} {st} {st'} {x} {p} {y} g h ex ep e =
      let s : record { sum = x; difference = y; pll = st' } ≡ step_at F t mpx pilot d i = e ∙ rw (g.state, ex, ep) in
      record {
        below = omega (arith, g.below);
        sums = filled_next g.sums h (ap (λ (z : Stepped A). z.sum) s);
        differences = filled_next g.differences h (ap (λ (z : Stepped A). z.difference) s);
        state = rw (add-one i) (ap (λ (z : Stepped A). z.pll) s);
      }

  pub going_end : {i : ℕ} {sum difference : List A} {st : Pll A} → Going i sum difference st → length mpx ≤ i
      → record { said = accepted; sum = sum; difference = difference; pll = st } ≡ run_of F d t mpx pilot
  unfolding run_of
  going_end {i} g h =
      let e : i ≡ length mpx = omega (arith, g.below) in
      rw (filled_end g.sums g.below h, filled_end g.differences g.below h, g.state, e)

  module _ (sum difference : List A) (s : Said) (e : s ≡ block_says F d (length t) (length mpx) (length pilot) (length sum) (length difference)) where
    pub turned_back : accepts s ≡ false → record { said = s; sum = sum; difference = difference; pll = d } ≡ block_of F d t mpx pilot sum difference
    unfolding block_of
    turned_back h = rw (← e, h)

    pub carried_out : {r : Blocked A} → accepts s ≡ true → r ≡ run_of F d t mpx pilot → r ≡ block_of F d t mpx pilot sum difference
    unfolding block_of
    carried_out h k = k ∙ rw (← e, h)

-- an accepted block has four equal lengths, and a whole table
pub lengths_equal : (t n p s d : ℕ) → accepts (first_cause (length_causes t n p s d)) ≡ true → (p ≡ n) × (s ≡ n) × (d ≡ n) × (t ≡ entries)
lengths_equal t n p s d h =
    let x = each (length_causes t n p s d) h in
    (length_is 10 n p x.1.0, length_is 11 n s x.1.1.0, length_is 11 n d x.1.1.1.0, length_is 9 entries t x.0)
