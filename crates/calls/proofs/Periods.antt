-- A summary that takes sample after sample finishes the periods of the raw history, and holds what is left over.
-- Over the format. Assumes nothing.
use Prim.Native.Nat.{ℕ, zero, suc, ◌+◌, ◌*◌, ◌/◌, ◌%◌, ◌<◌}
use mathlib.Core.Path.{◌≡◌, refl, sym, ap, ◌∙◌}
use mathlib.Core.Bool.{Bool, true, false, cond}
use mathlib.Core.List.{List, [], ◌∷◌, ◌++◌, append_assoc}
use native.Mathlib.Omega.{arith}
use native.Mathlib.Nat.{zero-add, add-zero, add_assoc, zero-mul, suc-mul, add_comm, mod-lt, div-add-mod'}
use borrow.Author.Tests.{eq-eqb, ne_eqb}
use lib.ListN.{length, take, drop, take-append-drop, length-drop}
use lib.Seq.{length-take-le, take-add, drop-drop}
use Rattle.decoder.specs.Machine.{Arithmetic}
use Rattle.summary_counts.specs.Counts.{held_of, unlike, counted_of, full_of, emptied}
use Rattle.summary_record.specs.Record.{Summary, fresh_summary}
use Rattle.summary_call.specs.Summary.{Outcome, Figures, figures_of, Running, noted, next_of, through, begun}
use Rattle.summary_counts.proofs.Fits.{one_more}
use Rattle.calls.specs.Periods.{decided, changes_from, last_from, largest_from, figures_from, whole_periods, finished_of, unfinished_of}

module _ {A : Type 0} where
  last_append : (before : Bool) (xs ys : List (Outcome A)) → last_from before (xs ++ ys) ≡ last_from (last_from before xs) ys
  last_append before [] ys = refl
  last_append before (o ∷ os) ys = last_append o.stereo os ys

module _ {A : Type 0} (F : Arithmetic A) where
  pub through_append : (r : Running A) (xs ys : List (Outcome A)) → through F r (xs ++ ys) ≡ through F (through F r xs) ys
  through_append r [] ys = refl
  through_append r (o ∷ os) ys = through_append (next_of F r o) os ys

  -- periods that were finished before stay in front
  abbrev pub put : List (Figures A) → Running A → Running A
  put fs r = record { finished = fs ++ r.finished; summary = r.summary }

  put_next : (fs : List (Figures A)) (r : Running A) (o : Outcome A) → next_of F (put fs r) o ≡ put fs (next_of F r o)
  put_next fs r o = go (full_of (noted F r.summary o).counts)
    where
      n : Summary A
      n = noted F r.summary o

      by : Bool → List (Figures A) → Running A
      by t gs =
          cond t
          (record { finished = gs ++ (figures_of n ∷ []); summary = record { counts = emptied n.counts; magnitude = F.nought } })
          (record { finished = gs; summary = n })

      go : (t : Bool) → by t (fs ++ r.finished) ≡ put fs (by t r.finished)
      go true = ap (λ (gs : List (Figures A)). record { finished = gs; summary = record { counts = emptied n.counts; magnitude = F.nought } }) (append_assoc fs r.finished (figures_of n ∷ []))
      go false = refl

  pub put_through : (fs : List (Figures A)) (r : Running A) (os : List (Outcome A)) → through F (put fs r) os ≡ put fs (through F r os)
  put_through fs r [] = refl
  put_through fs r (o ∷ os) = ap (λ (q : Running A). through F q os) (put_next fs r o) ∙ put_through fs (next_of F r o) os

  -- a summary with the figures of further samples, its period left open
  abbrev added : Summary A → List (Outcome A) → Summary A
  added s os =
      let c = s.counts in
      record {
        counts = record {
          period = c.period;
          stereo = c.stereo + decided true os;
          mono = c.mono + decided false os;
          changes = c.changes + changes_from c.before os;
          before = last_from c.before os;
        };
        magnitude = largest_from F s.magnitude os;
      }

  added_none : (s : Summary A) → added s [] ≡ s
  added_none s =
      let c = s.counts in
      λ j. record { counts = record { period = c.period; stereo = add-zero c.stereo j; mono = add-zero c.mono j; changes = add-zero c.changes j; before = c.before }; magnitude = s.magnitude }

  added_one : (s : Summary A) (o : Outcome A) (os : List (Outcome A)) → added (noted F s o) os ≡ added s (o ∷ os)
  added_one s o os =
      let c = s.counts in
      let b = o.stereo in
      let m = added (noted F s o) os in
      λ j. record {
        counts = record {
          period = c.period;
          stereo = either b j;
          mono = add_assoc c.mono (cond b 0 1) (decided false os) j;
          changes = add_assoc c.changes (cond (unlike c.before b) 1 0) (changes_from b os) j;
          before = m.counts.before;
        };
        magnitude = m.magnitude;
      }
    where
      either : (b : Bool) → s.counts.stereo + cond b 1 0 + decided true os ≡ s.counts.stereo + (cond (unlike true b) 0 1 + decided true os)
      either true = add_assoc s.counts.stereo 1 (decided true os)
      either false = add_assoc s.counts.stereo 0 (decided true os)

  -- a sample within its period, and the one that fills it
  next_open : (s : Summary A) (o : Outcome A) → (held_of s.counts + 1 ≡ s.counts.period → ⊥) → next_of F (begun s) o ≡ begun (noted F s o)
  next_open s o h = rw (ne_eqb (held_of (counted_of s.counts o.stereo)) s.counts.period (λ e. h (sym (one_more s.counts o.stereo) ∙ e)))

  -- a summary that holds nothing
  abbrev empty : ℕ → Bool → Summary A
  empty period before = record { counts = record { period = period; stereo = 0; mono = 0; changes = 0; before = before }; magnitude = F.nought }

  -- a period that has just ended
  abbrev filled : Summary A → Running A
  filled s = record { finished = figures_of s ∷ []; summary = empty s.counts.period s.counts.before }

  next_full : (s : Summary A) (o : Outcome A) → held_of s.counts + 1 ≡ s.counts.period → next_of F (begun s) o ≡ filled (noted F s o)
  next_full s o h = rw (eq-eqb (held_of (counted_of s.counts o.stereo)) s.counts.period (one_more s.counts o.stereo ∙ h))

  -- samples that do not reach the end of the period
  part_open : (s : Summary A) (os : List (Outcome A)) → held_of s.counts + length os < s.counts.period → through F (begun s) os ≡ begun (added s os)
  part_open s [] h = ap begun (sym (added_none s))
  part_open s (o ∷ os) h =
      ap (λ (r : Running A). through F r os) (next_open s o (λ e. before (held_of s.counts) (length os) s.counts.period h e))
      ∙ part_open (noted F s o) os (omega (arith, one_more s.counts o.stereo))
      ∙ ap begun (added_one s o os)
    where
      before : (h n p : ℕ) → h + suc n < p → h + 1 ≡ p → ⊥
      before h n p l e = omega arith

  -- samples that reach it exactly
  part_full : (s : Summary A) (o : Outcome A) (os : List (Outcome A)) → held_of s.counts + suc (length os) ≡ s.counts.period → through F (begun s) (o ∷ os) ≡ filled (added s (o ∷ os))
  part_full s o [] h = next_full s o h ∙ ap filled (sym (added_none (noted F s o)) ∙ added_one s o [])
  part_full s o (p ∷ os) h =
      ap (λ (r : Running A). through F r (p ∷ os)) (next_open s o (λ e. before (held_of s.counts) (length os) s.counts.period h e))
      ∙ part_full (noted F s o) p os (omega (arith, one_more s.counts o.stereo))
      ∙ ap filled (added_one s o (p ∷ os))
    where
      before : (h n p : ℕ) → h + suc (suc n) ≡ p → h + 1 ≡ p → ⊥
      before h n p l e = omega arith

  one_period : (period : ℕ) (before : Bool) (os : List (Outcome A)) → 0 < period → length os ≡ period → through F (begun (empty period before)) os ≡ filled (added (empty period before) os)
  one_period period before [] l h = absurd (none period l h)
    where
      none : (p : ℕ) → 0 < p → 0 ≡ p → ⊥
      none p l e = omega arith
  one_period period before (o ∷ os) l h = part_full (empty period before) o os (omega arith)

  added_empty : (period : ℕ) (before : Bool) (os : List (Outcome A)) → figures_of (added (empty period before) os) ≡ figures_from F before os
  added_empty period before os =
      λ j. record { stereo = zero-add (decided true os) j; mono = zero-add (decided false os) j; changes = zero-add (changes_from before os) j; magnitude = largest_from F F.nought os }

  -- q whole periods, and the rest
  abbrev cut : ℕ → ℕ → Bool → List (Outcome A) → Running A
  cut period q before os = record {
    finished = whole_periods F period q before os;
    summary = added (empty period (last_from before (take (q * period) os))) (drop (q * period) os);
  }

  in_periods : (period q rest : ℕ) (before : Bool) (os : List (Outcome A)) → rest < period → length os ≡ q * period + rest → through F (begun (empty period before)) os ≡ cut period q before os
  unfolding whole_periods
  in_periods period zero rest before os l h =
      part_open (empty period before) os (omega (arith, h, zero-mul period))
      ∙ ap (λ (k : ℕ). record { finished = []; summary = added (empty period (last_from before (take k os))) (drop k os) }) (sym (zero-mul period))
  in_periods period (suc q) rest before os l h =
      ap (λ (xs : List (Outcome A)). through F (begun (empty period before)) xs) (sym (take-append-drop period os))
      ∙ through_append (begun (empty period before)) first later
      ∙ ap (λ (r : Running A). through F r later) (one_period period before first (omega arith) (length-take-le period os (omega (arith, h, more))))
      ∙ put_through (figures_of (added (empty period before) first) ∷ []) (begun (empty period next)) later
      ∙ ap (put (figures_of (added (empty period before) first) ∷ [])) (in_periods period q rest next later l (omega (arith, h, more, length-drop period os)))
      ∙ (λ j. record {
        finished = added_empty period before first j ∷ whole_periods F period q next later;
        summary = added (empty period (before_rest j)) (rest_is j);
      })
    where
      first : List (Outcome A)
      first = take period os

      later : List (Outcome A)
      later = drop period os

      next : Bool
      next = last_from before first

      more : suc q * period ≡ period + q * period
      more = suc-mul q period ∙ add_comm (q * period) period

      before_rest : last_from next (take (q * period) later) ≡ last_from before (take (suc q * period) os)
      before_rest = sym (last_append before first (take (q * period) later)) ∙ ap (last_from before) (sym (take-add period (q * period) os)) ∙ ap (λ (k : ℕ). last_from before (take k os)) (sym more)

      rest_is : drop (q * period) later ≡ drop (suc q * period) os
      rest_is = drop-drop (q * period) period os ∙ ap (λ (k : ℕ). drop k os) (sym more)

  -- from a fresh summary on
  pub from_fresh : (period : ℕ) (os : List (Outcome A)) → 0 < period → through F (begun (fresh_summary F period)) os ≡ record { finished = finished_of F period os; summary = unfinished_of F period os }
  unfolding unfinished_of
  from_fresh period os l =
      let q = length os / period in
      let w = q * period in
      let f = added_empty period (last_from false (take w os)) (drop w os) in
      in_periods period q (length os % period) false os (mod-lt (length os) l) (sym (div-add-mod' (length os) period))
      ∙ (λ j. record {
        finished = finished_of F period os;
        summary = record {
          counts = record { period = period; stereo = (f j).stereo; mono = (f j).mono; changes = (f j).changes; before = last j };
          magnitude = (f j).magnitude;
        };
      })
    where
      last : let w = length os / period * period in last_from (last_from false (take w os)) (drop w os) ≡ last_from false os
      last = let w = length os / period * period in sym (last_append false (take w os) (drop w os)) ∙ ap (last_from false) (take-append-drop w os)
