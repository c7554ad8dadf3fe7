-- Samples that are worked in parts, over the format: a turn goes on where the one before stopped. Assumes nothing.
use Prim.Native.Nat.{ℕ, zero, suc, ◌+◌, ◌-◌, ◌≤◌, ◌<◌, min}
use native.Mathlib.Nat.{add-zero, add-suc}
use native.Mathlib.Omega.{arith}
use mathlib.Core.Path.{◌≡◌, refl, sym, ap, ◌∙◌}
use mathlib.Core.Bool.{true}
use mathlib.Core.List.{List, [], ◌∷◌, ◌++◌, append-nil, append_assoc}
use lib.ListN.{length, take, drop}
use lib.Seq.{get_or-take, get_or-drop, length-take-le, take_at}
use Rattle.answers.specs.Answer.{accepted, accepts}
use Rattle.answers.specs.Samples.{samples}
use Rattle.answers.proofs.Causes.{none_yet}
use Rattle.answers.proofs.Passes.{length_samples, same_samples}
use Rattle.decoder_record.specs.State.{Pll}
use Rattle.decoder.specs.Machine.{Arithmetic, Stepped, Blocked, step_of, state_at, step_at, run_of, block_of}
use Rattle.calls.specs.Calls.{Brought}
use Rattle.calls.specs.Demand.{first_of}
use Rattle.calls.proofs.Steps.{says_of, block_ran, state_first, first_says}
use Rattle.rack_waiting.specs.Beside.{over}
use Rattle.rack_round.specs.Round.{Queue, Turned, turn_of}

-- samples in two parts
pub samples_split : {X : Type 0} (n j : ℕ) (f : ℕ → X) → samples (n + j) f ≡ samples n f ++ samples j (λ i. f (n + i))
unfolding samples
samples_split n zero f = ap (λ (m : ℕ). samples m f) (add-zero n) ∙ sym (append-nil (samples n f))
samples_split {X} n (suc j) f =
    ap (λ (m : ℕ). samples m f) (add-suc n j)
    ∙ ap (λ (l : List X). l ++ (f (n + j) ∷ [])) (samples_split n j f)
    ∙ append_assoc (samples n f) (samples j (λ i. f (n + i))) (f (n + j) ∷ [])

module _ {A : Type 0} (F : Arithmetic A) (t : List A) where
  -- from sample n on
  pub state_split : (x p : List A) (d : Pll A) (n j : ℕ) → state_at F t (drop n x) (drop n p) (state_at F t x p d n) j ≡ state_at F t x p d (n + j)
  unfolding state_at
  state_split x p d n zero = ap (state_at F t x p d) (sym (add-zero n))
  state_split x p d n (suc j) =
      (λ i. (step_of F t (state_split x p d n j i) (get_or-drop n x j F.nought i) (get_or-drop n p j F.nought i)).pll)
      ∙ ap (state_at F t x p d) (sym (add-suc n j))

  pub step_split : (x p : List A) (d : Pll A) (n j : ℕ) → step_at F t (drop n x) (drop n p) (state_at F t x p d n) j ≡ step_at F t x p d (n + j)
  step_split x p d n j = λ i. step_of F t (state_split x p d n j i) (get_or-drop n x j F.nought i) (get_or-drop n p j F.nought i)

  step_first : (x p : List A) (d : Pll A) (k i : ℕ) → i < k → step_at F t (take k x) (take k p) d i ≡ step_at F t x p d i
  step_first x p d k i h =
      λ j. step_of F t (state_first F t x p d k i (omega arith) j) (get_or-take k x i F.nought h j) (get_or-take k p i F.nought h j)

  -- what n samples leave
  abbrev ran : List A → List A → Pll A → ℕ → Blocked A
  ran x p d n = record {
    said = accepted;
    sum = samples n (λ i. (step_at F t x p d i).sum);
    difference = samples n (λ i. (step_at F t x p d i).difference);
    pll = state_at F t x p d n;
  }

  -- a run over the first k samples, by all of them
  pub first_run : (x p : List A) (d : Pll A) (k : ℕ) → k ≤ length x
      → run_of F d t (take k x) (take k p) ≡ ran x p d k
  unfolding run_of
  first_run x p d k h =
      ap (ran (take k x) (take k p) d) (length-take-le k x h)
      ∙ (λ j. record {
        said = accepted;
        sum = side (λ s. s.sum) j;
        difference = side (λ s. s.difference) j;
        pll = state_first F t x p d k k (omega arith) j;
      })
    where
      side : (f : Stepped A → A) → samples k (λ i. f (step_at F t (take k x) (take k p) d i)) ≡ samples k (λ i. f (step_at F t x p d i))
      side f =
          same_samples k (λ i. f (step_at F t (take k x) (take k p) d i)) (λ i. f (step_at F t x p d i)) (λ i l. ap f (step_first x p d k i l))

  -- a turn of a decoder whose causes are not in force
  abbrev pub brought_of : Queue A → Brought A
  brought_of q = record { table = t; mpx = q.mpx; pilot = q.pilot; first = q.sum; second = q.difference }

  module _ (share : ℕ) (d : Pll A) (q : Queue A) (h : accepts (says_of F d (brought_of q)) ≡ true) where
    n : ℕ
    n = min share (length q.mpx)

    few : n ≤ length q.mpx
    unfolding n
    few = omega arith

    block_is : block_of F d t (take n q.mpx) (take n q.pilot) (take n q.sum) (take n q.difference) ≡ ran q.mpx q.pilot d n
    block_is =
        block_ran F d (first_of n (brought_of q)) (first_says F d (brought_of q) n few (none_yet (says_of F d (brought_of q)) h))
        ∙ first_run q.mpx q.pilot d n few

    abbrev u : Turned A
    u = turn_of F t share d q

    pub turn_taken : u.taken ≡ min share (length q.mpx)
    unfolding turn_of
    turn_taken = refl

    pub turn_pll : u.pll ≡ state_at F t q.mpx q.pilot d (min share (length q.mpx))
    unfolding turn_of n
    turn_pll = ap (λ (b : Blocked A). b.pll) block_is

    front : (f : ℕ → A) (l : List A) → take n (over (samples n f) l) ≡ samples n f
    front f l = take_at (samples n f) (drop (length (samples n f)) l) n (length_samples n f)

    pub turn_sum : take (min share (length q.mpx)) u.sum ≡ samples (min share (length q.mpx)) (λ i. (step_at F t q.mpx q.pilot d i).sum)
    unfolding turn_of n
    turn_sum = ap (λ (b : Blocked A). take n (over b.sum q.sum)) block_is ∙ front (λ i. (step_at F t q.mpx q.pilot d i).sum) q.sum

    pub turn_difference : take (min share (length q.mpx)) u.difference ≡ samples (min share (length q.mpx)) (λ i. (step_at F t q.mpx q.pilot d i).difference)
    unfolding turn_of n
    turn_difference =
        ap (λ (b : Blocked A). take n (over b.difference q.difference)) block_is
        ∙ front (λ i. (step_at F t q.mpx q.pilot d i).difference) q.difference
