-- What a block shows of its samples is what the machine's steps leave: a block of the first samples ends in the
-- state after them. Over the format. Assumes nothing.
use Prim.Native.Nat.{ℕ, zero, suc, ◌≤◌, ◌<◌}
use mathlib.Core.Path.{◌≡◌, refl, sym, ap, ◌∙◌}
use mathlib.Core.Bool.{Bool, true, false}
use mathlib.Core.List.{List}
use native.Mathlib.Omega.{arith}
use borrow.Author.Tests.{eq-eqb}
use lib.ListN.{length, get_or, take}
use lib.Seq.{length-take-le, get_or-take, ext_get_or}
use Rattle.answers.specs.Answer.{Said, accepted, turned, lengths, accepts, rule, first_cause, kept}
use Rattle.answers.specs.Samples.{samples}
use Rattle.answers.proofs.Causes.{both, rule_passed, none_yet}
use Rattle.answers.proofs.Passes.{length_samples, sample_at}
use Rattle.decoder_record.specs.State.{Pll}
use Rattle.decoder.specs.Machine.{Arithmetic, Stepped, Blocked, step_of, state_at, step_at, run_of, length_causes, block_says, block_of}
use Rattle.decoder.proofs.Loops.{lengths_equal}
use Rattle.summary_record.specs.Record.{Summary, summary_fit}
use Rattle.summary_call.specs.Summary.{Columns, Outcome, outcome_of, Summarized, summary_says, summary_run, summary_of}
use Rattle.calls.specs.Calls.{Brought, block, Left, leaving, call_of}
use Rattle.calls.specs.Demand.{Format, seen, first_of, Shows}
use Rattle.calls.specs.Summaries.{first_in, second_in}

module _ {A : Type 0} (F : Arithmetic A) where
  -- the answer of a block
  abbrev pub says_of : Pll A → Brought A → Said
  says_of d b = block_says F d (length b.table) (length b.mpx) (length b.pilot) (length b.first) (length b.second)

  abbrev pub own_block : Pll A → Brought A → Blocked A
  own_block d b = block_of F d b.table b.mpx b.pilot b.first b.second

  pub block_said : (d : Pll A) (b : Brought A) → (own_block d b).said ≡ says_of d b
  unfolding block_of run_of
  block_said d b = go (says_of d b)
    where
      go : (s : Said) → (kept s (run_of F d b.table b.mpx b.pilot) (record { said = s; sum = b.first; difference = b.second; pll = d })).said ≡ s
      go accepted = refl
      go (turned n) = refl
      go (lengths n x y) = refl

  -- an accepted block has run
  pub block_ran : (d : Pll A) (b : Brought A) → says_of d b ≡ accepted → own_block d b ≡ run_of F d b.table b.mpx b.pilot
  unfolding block_of
  block_ran d b h = rw h

  -- what the first k samples leave does not depend on the later ones
  pub state_first : (t mpx pilot : List A) (d : Pll A) (k i : ℕ) → i ≤ k → state_at F t (take k mpx) (take k pilot) d i ≡ state_at F t mpx pilot d i
  unfolding state_at
  state_first t mpx pilot d k zero h = refl
  state_first t mpx pilot d k (suc i) h =
      λ j. (step_of F t (state_first t mpx pilot d k i (omega arith) j) (get_or-take k mpx i F.nought h j) (get_or-take k pilot i F.nought h j)).pll

  -- the first samples of an accepted block are accepted
  pub first_says : (d : Pll A) (b : Brought A) (k : ℕ) → k ≤ length b.mpx → says_of d b ≡ accepted → says_of d (first_of k b) ≡ accepted
  first_says d b k l h =
      let x = both (rule 0 (F.fit d)) (first_cause (length_causes (length b.table) (length b.mpx) (length b.pilot) (length b.first) (length b.second))) (ap accepts h) in
      let n = lengths_equal (length b.table) (length b.mpx) (length b.pilot) (length b.first) (length b.second) x.1 in
      rw (length-take-le k b.mpx l, length-take-le k b.pilot (omega arith), length-take-le k b.first (omega arith), length-take-le k b.second (omega arith), rule_passed 0 (F.fit d) x.0, n.3, eq-eqb k k refl)

  -- and end in the state after them
  first_ends : (d : Pll A) (b : Brought A) (i : ℕ) → i < length b.mpx → says_of d b ≡ accepted
      → (own_block d (first_of (suc i) b)).pll ≡ (step_at F b.table b.mpx b.pilot d i).pll
  unfolding run_of state_at
  first_ends d b i l h =
      rw (block_ran d (first_of (suc i) b) (first_says d b (suc i) l h), length-take-le (suc i) b.mpx l)
      (state_first b.table b.mpx b.pilot d (suc i) (suc i) (omega arith))

  -- decision and difference after each sample of a block
  abbrev pub outcomes_in : Pll A → Brought A → List (Outcome A)
  outcomes_in d b = samples (length b.mpx) (λ i. outcome_of (step_at F b.table b.mpx b.pilot d i))

module _ {A : Type 0} (F : Arithmetic A) (unsigned : A → Bool) where
  -- the answer of a summary call, and what it leaves
  abbrev pub says_summary : Pll A → Summary A → Brought A → Columns A → Said
  says_summary d s b c = summary_says F unsigned s (says_of F d b) (length b.mpx) c

  abbrev pub own_summary : Pll A → Summary A → Brought A → Columns A → Summarized A
  own_summary d s b c = summary_of F unsigned d s b.table b.mpx b.pilot b.first b.second c

  pub summary_said : (d : Pll A) (s : Summary A) (b : Brought A) (c : Columns A) → (own_summary d s b c).said ≡ says_summary d s b c
  unfolding summary_of summary_run run_of
  summary_said d s b c = go (says_summary d s b c)
    where
      go : (u : Said) → (kept u (summary_run F d s b.table b.mpx b.pilot) (record { said = u; sum = b.first; difference = b.second; columns = c; pll = d; summary = s })).said ≡ u
      go accepted = refl
      go (turned n) = refl
      go (lengths n x y) = refl

  -- an accepted one brought a summary that is fit, its block is accepted, and it has run
  pub record Ran (d : Pll A) (s : Summary A) (b : Brought A) (c : Columns A) : Type 0 where
    pub fit : summary_fit F unsigned s ≡ true
    pub own : says_of F d b ≡ accepted
    pub is_run : own_summary d s b c ≡ summary_run F d s b.table b.mpx b.pilot

  pub summary_ran : (d : Pll A) (s : Summary A) (b : Brought A) (c : Columns A) → says_summary d s b c ≡ accepted → Ran d s b c
  unfolding summary_of
  summary_ran d s b c h =
      let x = both (rule 20 (summary_fit F unsigned s)) _ (ap accepts h) in
      record {
        fit = rule_passed 20 (summary_fit F unsigned s) x.0;
        own = none_yet (says_of F d b) (both (says_of F d b) _ x.1).0;
        is_run = rw h;
      }

module _ {A D R Q N S T : Type 0} (K : Format A D R Q N S T) where
  abbrev F : Arithmetic A
  F = K.core.arithmetic

  -- what a block left, from what a call left
  abbrev pub blocked_in : Left A (Pll A) → Blocked A
  blocked_in l = record { said = l.said; sum = first_in l.outputs; difference = second_in l.outputs; pll = l.decoder }

  -- a block that leaves what the machine's block leaves shows what its steps leave
  module _ (Block : D → Brought A → Left A D → Type 0)
      (right : (d : D) (b : Brought A) (l : Left A D) → Block d b l → seen K l ≡ call_of K.core (K.state d) (block b)) where
    pub shown_steps : (d : D) (b : Brought A) (difference : List A) (os : List (Outcome A)) → says_of F (K.state d) b ≡ accepted
        → difference ≡ (own_block F (K.state d) b).difference → Shows K Block d b difference os → os ≡ outcomes_in F (K.state d) b
    unfolding run_of
    shown_steps d b difference os says left h =
        ext_get_or z os (outcomes_in F m b) (h.0 ∙ sym (length_samples (length b.mpx) (λ i. outcome_of (steps i))))
        (λ i l. each i (rw h.0 at l) ∙ sym (sample_at (length b.mpx) (λ i. outcome_of (steps i)) z i (rw h.0 at l)))
      where
        z : Outcome A
        z = record { stereo = false; difference = F.nought }

        m : Pll A
        m = K.state d

        steps : ℕ → Stepped A
        steps i = step_at F b.table b.mpx b.pilot m i

        each : (i : ℕ) → i < length b.mpx → get_or os i z ≡ outcome_of (steps i)
        each i l =
            let o = h.1 i l z in
            let e = o.1 in
            let decision : (get_or os i z).stereo ≡ (steps i).pll.moving.stereo =
            e.5
            ∙ ap (λ (r : Left A (Pll A)). r.decoder.moving.stereo) (right d (first_of (suc i) b) (leaving e.0 e.1 e.2 e.3) e.4)
            ∙ ap (λ (p : Pll A). p.moving.stereo) (first_ends F m b i l says)
            in
            let magnitude : (get_or os i z).difference ≡ (steps i).difference =
            o.0
            ∙ ap (λ (y : List A). get_or y i F.nought) (left ∙ ap (λ (r : Blocked A). r.difference) (block_ran F m b says))
            ∙ sample_at (length b.mpx) (λ i. (steps i).difference) F.nought i l
            in
            λ j. record { stereo = decision j; difference = magnitude j }

    -- and what its steps leave it does show, where each block of its first samples leaves something
    pub steps_shown : (d : D) (b : Brought A) → says_of F (K.state d) b ≡ accepted
        → ((k : ℕ) → (said : Said) × (sum : List A) × (other : List A) × (e : D) × Block d (first_of k b) (leaving said sum other e))
        → Shows K Block d b (own_block F (K.state d) b).difference (outcomes_in F (K.state d) b)
    unfolding run_of
    steps_shown d b says some = (
      length_samples (length b.mpx) (λ i. outcome_of (steps i)),
      λ i l z.
          let o = sample_at (length b.mpx) (λ i. outcome_of (steps i)) z i l in
          let e = some (suc i) in (
            ap (λ (o : Outcome A). o.difference) o
                ∙ sym (ap (λ (r : Blocked A). get_or r.difference i F.nought) (block_ran F m b says) ∙ sample_at (length b.mpx) (λ i. (steps i).difference) F.nought i l),
            (
              e.0,
              e.1,
              e.2,
              e.3,
              e.4,
              ap (λ (o : Outcome A). o.stereo) o
                  ∙ sym (ap (λ (r : Left A (Pll A)). r.decoder.moving.stereo) (right d (first_of (suc i) b) (leaving e.0 e.1 e.2 e.3) e.4)
                  ∙ ap (λ (p : Pll A). p.moving.stereo) (first_ends F m b i l says)),
            ),
          ),
    )
      where
        m : Pll A
        m = K.state d

        steps : ℕ → Stepped A
        steps i = step_at F b.table b.mpx b.pilot m i
