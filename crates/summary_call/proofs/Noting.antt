-- A summary's loop and block, over the format: what a turn of the loop, its end, a refusal and an accepted call
-- have to show. Assumes nothing.
use Prim.Native.Nat.{ℕ, suc, ◌+◌, ◌*◌, ◌≤◌, ◌<◌}
use mathlib.Core.Path.{◌≡◌, refl, sym, ap, subst, ◌∙◌}
use mathlib.Core.Bool.{Bool, true, false, cond}
use mathlib.Core.List.{List, [], ◌∷◌, ◌++◌, map, map-append}
use native.Mathlib.Nat.{le-div_iff_mul-le, div-eq_of_lt-le}
use native.Mathlib.Numerals.{add-one}
use native.Mathlib.Omega.{arith}
use borrow.Author.Tests.{eqb-true}
use lib.ListN.{length, take, set, get_or, length-set, length-append}
use lib.Seq.{take-suc-set, take_all}
use Rattle.answers.specs.Answer.{accepted}
use Rattle.answers.specs.Samples.{samples}
use Rattle.decoder_record.specs.State.{Pll}
use Rattle.decoder.specs.Machine.{Arithmetic, Blocked, step_of, step_at, run_of}
use Rattle.decoder.proofs.Loops.{Going, going_start, going_next, going_end}
use Rattle.summary_counts.specs.Counts.{held_of, counted_of, full_of, emptied, ending_of, counts_fit}
use Rattle.summary_record.specs.Record.{Summary, larger_of}
use Rattle.summary_call.specs.Summary.{Outcome, outcome_of, Figures, figures_of, Columns, columns_of, Running, noted, next_of, through, begun, summary_run}
use Rattle.summary_counts.proofs.Fits.{counts_in, one_more}
use Rattle.summary_record.proofs.Fits.{Unsigned, Fitted}
use Rattle.summary_call.proofs.Fits.{fit_next}
use Rattle.summary_counts.specs.declared.Counts.{Counts}

-- ---- a column: the places of the finished periods are filled
pub record Column {A X : Type 0} (n : ℕ) (f : Figures A → X) (fs : List (Figures A)) (out : List X) : Type 0 where
  pub size : length out ≡ n
  pub done : take (length fs) out ≡ map f fs

module _ {A X : Type 0} {n : ℕ} {f : Figures A → X} where
  column_start : {out : List X} → length out ≡ n → Column n f [] out
  column_start h = record { size = h; done = refl }

  column_next : {fs : List (Figures A)} {out : List X} {x : Figures A} {k : ℕ} {v : X} → Column n f fs out → length fs ≡ k → k < n → v ≡ f x → Column n f (fs ++ (x ∷ [])) (set out k v)
  column_next {fs} {out} {x} {k} {v} w h l e =
      let more : length (fs ++ (x ∷ [])) ≡ suc k = length-append fs (x ∷ []) ∙ omega (arith, h) in
      record {
        size = length-set out k v ∙ w.size;
        done = rw (more, take-suc-set out k v (omega (arith, w.size)), e, map-append f fs (x ∷ []), ← w.done, h);
      }

  column_end : {fs : List (Figures A)} {out : List X} → Column n f fs out → length fs ≡ n → out ≡ map f fs
  column_end {fs} {out} w h = sym (take_all (length fs) out (omega (arith, w.size))) ∙ w.done

pub record Placed {A : Type 0} (n : ℕ) (fs : List (Figures A)) (c : Columns A) : Type 0 where
  pub stereo : Column n (λ f. f.stereo) fs c.stereo
  pub mono : Column n (λ f. f.mono) fs c.mono
  pub changes : Column n (λ f. f.changes) fs c.changes
  pub magnitude : Column n (λ f. f.magnitude) fs c.magnitude

-- all places are filled
columns_end : {A : Type 0} {n : ℕ} {fs : List (Figures A)} {c : Columns A} → Placed n fs c → length fs ≡ n → c ≡ columns_of fs
columns_end p h = λ j. record { stereo = column_end p.stereo h j; mono = column_end p.mono h j; changes = column_end p.changes h j; magnitude = column_end p.magnitude h j }

-- the columns with one more period at k
abbrev pub placed_at : {A : Type 0} → ℕ → Columns A → Figures A → Columns A
placed_at k c f = record {
  stereo = set c.stereo k f.stereo;
  mono = set c.mono k f.mono;
  changes = set c.changes k f.changes;
  magnitude = set c.magnitude k f.magnitude;
}

module _ {A : Type 0} (F : Arithmetic A) (unsigned : A → Bool) (P : Unsigned F unsigned) (t mpx pilot : List A) (d : Pll A) (s : Summary A) where
  abbrev outcome : ℕ → Outcome A
  outcome i = outcome_of (step_at F t mpx pilot d i)

  abbrev places : ℕ
  places = ending_of s.counts (length mpx)

  through_snoc : (r : Running A) (os : List (Outcome A)) (o : Outcome A) → through F r (os ++ (o ∷ [])) ≡ next_of F (through F r os) o
  through_snoc r [] o = refl
  through_snoc r (q ∷ os) o = through_snoc (next_of F r q) os o

  -- the first i samples are done, and k periods are finished
  pub record Noting (i k : ℕ) (sum difference : List A) (c : Columns A) (st : Pll A) (now : Summary A) : Type 0 where
    pub going : Going F t mpx pilot d i sum difference st
    pub fit_state : F.fit st ≡ true
    pub finished : List (Figures A)
    pub run : through F (begun s) (samples i outcome) ≡ record { finished = finished; summary = now }
    pub count : length finished ≡ k
    pub placed : Placed places finished c
    pub passed : k * s.counts.period + held_of now.counts ≡ held_of s.counts + i
    pub period : now.counts.period ≡ s.counts.period
    pub fitted : Fitted F unsigned now

  pub noting_start : {sum difference : List A} {c : Columns A} → length sum ≡ length mpx → length difference ≡ length mpx
      → length c.stereo ≡ places → length c.mono ≡ places → length c.changes ≡ places → length c.magnitude ≡ places
      → F.fit d ≡ true → Fitted F unsigned s → Noting 0 0 sum difference c d s
  unfolding samples
  noting_start a b e f g h z w = record {
    going = going_start F t mpx pilot d a b;
    fit_state = z;
    finished = [];
    run = refl;
    count = refl;
    placed = record { stereo = column_start e; mono = column_start f; changes = column_start g; magnitude = column_start h };
    passed = omega arith;
    period = refl;
    fitted = w;
  }

  -- one more sample: x, y and st' are what its step gives, and counts and m what its outcome o makes of the summary
  module _ {i k : ℕ} {sum difference : List A} {c : Columns A} {st st' : Pll A} {now : Summary A} {x p y m : A} {counts : Counts}
      (n : Noting i k sum difference c st now) (l : i < length mpx) (ex : x ≡ get_or mpx i F.nought) (ep : p ≡ get_or pilot i F.nought)
      (e : record { sum = x; difference = y; pll = st' } ≡ step_of F t st x p) (z : F.fit st' ≡ true)
      (ec : counts_fit now.counts ≡ true → counts ≡ counted_of now.counts st'.moving.stereo) (em : m ≡ larger_of F now.magnitude y) where
    abbrev o : Outcome A
    o = record { stereo = st'.moving.stereo; difference = y }

    abbrev next : Summary A
    next = noted F now o

    next_is : record { counts = counts; magnitude = m } ≡ next
    next_is = rw (ec (counts_in now.counts n.fitted.counted), em)

    outcome_is : outcome i ≡ o
    outcome_is =
        let step : record { sum = x; difference = y; pll = st' } ≡ step_at F t mpx pilot d i = e ∙ rw (n.going.state, ex, ep) in
        sym (ap outcome_of step)

    ran : through F (begun s) (samples (i + 1) outcome) ≡ next_of F (record { finished = n.finished; summary = now }) o
    unfolding samples
    ran =
        rw (add-one i)
        (through_snoc (begun s) (samples i outcome) (outcome i)
        ∙ ap (λ (r : Running A). next_of F r (outcome i)) n.run
        ∙ ap (next_of F (record { finished = n.finished; summary = now })) outcome_is)

    abbrev by : Bool → Running A
    by full =
        cond full
        (record { finished = n.finished ++ (figures_of next ∷ []); summary = record { counts = emptied next.counts; magnitude = F.nought } })
        (record { finished = n.finished; summary = next })

    on : full_of next.counts ≡ false → Noting (i + 1) k (set sum i x) (set difference i y) c st' next
    on h =
        let r : through F (begun s) (samples (i + 1) outcome) ≡ by false = ran ∙ ap by h in
        let f : Fitted F unsigned (by false).summary = subst (λ (b : Bool). Fitted F unsigned (by b).summary) h (fit_next F unsigned P (record { finished = n.finished; summary = now }) o n.fitted) in
        record {
          going = going_next F t mpx pilot d n.going l ex ep e;
          fit_state = z;
          finished = n.finished;
          run = r;
          count = n.count;
          placed = n.placed;
          passed = omega (arith, n.passed, one_more now.counts o.stereo);
          period = n.period;
          fitted = f;
        }

    pub noting_on : full_of counts ≡ false → Noting (i + 1) k (set sum i x) (set difference i y) c st' (record { counts = counts; magnitude = m })
    noting_on h = subst (λ (s : Summary A). Noting (i + 1) k (set sum i x) (set difference i y) c st' s) (sym next_is) (on (ap (λ (s : Summary A). full_of s.counts) (sym next_is) ∙ h))

    module _ (full : full_of counts ≡ true) where
      h : full_of next.counts ≡ true
      h = ap (λ (s : Summary A). full_of s.counts) (sym next_is) ∙ full

      -- the sample fills the period
      filled : suc k * s.counts.period ≡ held_of s.counts + (i + 1)
      filled =
          let full : held_of next.counts ≡ s.counts.period = eqb-true (held_of next.counts) next.counts.period h ∙ n.period in
          omega (arith, n.passed, one_more now.counts o.stereo, full)

      pub has_place : k < places
      has_place =
          let some : 0 < s.counts.period = omega (arith, n.fitted.counted.below, n.period) in
          (le-div_iff_mul-le {k = s.counts.period} {x = suc k} {y = held_of s.counts + length mpx} some).1 (omega (arith, filled, l))

      closes : Noting (i + 1) (k + 1) (set sum i x) (set difference i y) (placed_at k c (figures_of next)) st' (record { counts = emptied next.counts; magnitude = F.nought })
      closes =
          let r : through F (begun s) (samples (i + 1) outcome) ≡ by true = ran ∙ ap by h in
          let f : Fitted F unsigned (by true).summary = subst (λ (b : Bool). Fitted F unsigned (by b).summary) h (fit_next F unsigned P (record { finished = n.finished; summary = now }) o n.fitted) in
          record {
            going = going_next F t mpx pilot d n.going l ex ep e;
            fit_state = z;
            finished = n.finished ++ (figures_of next ∷ []);
            run = r;
            count = length-append n.finished (figures_of next ∷ []) ∙ omega (arith, n.count);
            placed = record {
              stereo = column_next n.placed.stereo n.count has_place refl;
              mono = column_next n.placed.mono n.count has_place refl;
              changes = column_next n.placed.changes n.count has_place refl;
              magnitude = column_next n.placed.magnitude n.count has_place refl;
            };
            passed = rw (add-one k) (omega (arith, filled));
            period = n.period;
            fitted = f;
          }

      pub noting_full : Noting (i + 1) (k + 1) (set sum i x) (set difference i y)
          (placed_at k c (figures_of (record { counts = counts; magnitude = m }))) st' (record { counts = emptied counts; magnitude = F.nought })
      noting_full =
          subst (λ (s : Summary A). Noting (i + 1) (k + 1) (set sum i x) (set difference i y) (placed_at k c (figures_of s)) st' (record { counts = emptied s.counts; magnitude = F.nought })) (sym next_is) closes

  pub noting_end : {i k : ℕ} {sum difference : List A} {c : Columns A} {st : Pll A} {now : Summary A} → Noting i k sum difference c st now → length mpx ≤ i
      → record { said = accepted; sum = sum; difference = difference; columns = c; pll = st; summary = now } ≡ summary_run F d s t mpx pilot
  unfolding summary_run
  noting_end {i} {k} {sum} {difference} {c} {st} {now} n h =
      let e : i ≡ length mpx = omega (arith, n.going.below) in
      let all : length n.finished ≡ places = n.count
      ∙ sym (div-eq_of_lt-le s.counts.period (omega (arith, n.passed, e)) (omega (arith, n.passed, e, n.fitted.counted.below, n.period)))
      in
      let r : record { finished = n.finished; summary = now } ≡ through F (begun s) (samples (length mpx) outcome) = rw (← e) (sym n.run) in
      ap (λ (x : Columns A). record { said = accepted; sum = sum; difference = difference; columns = x; pll = st; summary = now }) (columns_end n.placed all)
      ∙ ap (λ (b : Blocked A). record { said = b.said; sum = b.sum; difference = b.difference; columns = columns_of n.finished; pll = b.pll; summary = now }) (going_end F t mpx pilot d n.going h)
      ∙ ap (λ (q : Running A). let b = run_of F d t mpx pilot in record { said = b.said; sum = b.sum; difference = b.difference; columns = columns_of q.finished; pll = b.pll; summary = q.summary }) r
