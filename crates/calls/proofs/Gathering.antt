-- What the machine's summary calls give over a list of calls is what the steps of their samples give, however
-- these are cut into calls. Over the format. Assumes nothing.
use Prim.Native.Nat.{ℕ, zero, suc, ◌+◌}
use mathlib.Core.Path.{◌≡◌, refl, sym, ap, ◌∙◌, subst}
use mathlib.Core.Bool.{Bool, true, false, cond, ◌&&◌}
use mathlib.Core.List.{List, [], ◌∷◌, ◌++◌, map, append-nil, map-append}
use borrow.Author.Tests.{eqb-true}
use lib.ListN.{length, get_or}
use Rattle.answers.specs.Answer.{Said, accepted, turned, lengths, accepts, kept}
use Rattle.answers.specs.Samples.{samples}
use Rattle.decoder_record.specs.State.{Pll, enabled_of, reset_of}
use Rattle.decoder.specs.Machine.{Arithmetic, Stepped, step_of, step_at, run_of}
use Rattle.summary_counts.specs.Counts.{held_of, full_of, emptied}
use Rattle.summary_record.specs.Record.{Summary}
use Rattle.summary_call.specs.Summary.{Outcome, outcome_of, Figures, figures_of, Columns, columns_of, Running, Summarized, noted, next_of, through, begun, summary_run, summary_of}
use Rattle.summary_record.proofs.Fits.{Unsigned, Fitted}
use Rattle.summary_call.proofs.Fits.{fit_next}
use Rattle.calls.specs.Events.{Event, sample, switch, clear, event_of, after}
use Rattle.calls.specs.Calls.{Core, Brought, Call, block, merged, summary, enable, disable, reset, call_of, samples_of, events_of, machine, events}
use Rattle.calls.specs.Summaries.{summarizes, summary_in, Gathered, none, outputs_of, followed, Brings, gathered, last_summary, HandedOn, Marked, marked, steps_of, raw_of}
use Rattle.calls.proofs.Events.{after_samples, call_after}
use Rattle.calls.proofs.Steps.{says_summary}
use Rattle.calls.proofs.Periods.{through_append, put, put_through}

map_samples : {A B : Type 0} (f : A → B) (n : ℕ) (g : ℕ → A) → map f (samples n g) ≡ samples n (λ i. f (g i))
unfolding samples
map_samples f zero g = refl
map_samples {B = B} f (suc n) g = map-append f (samples n g) (g n ∷ []) ∙ ap (λ (l : List B). l ++ (f (g n) ∷ [])) (map_samples f n g)

-- ---- one call of the machine, from any summary
module _ {A : Type 0} (F : Arithmetic A) where
  -- every finished period has its samples
  abbrev pub Whole : ℕ → List (Figures A) → Type 0
  Whole period [] = Unit {0}
  Whole period (f ∷ fs) = (f.stereo + f.mono ≡ period) × Whole period fs

  whole_append : (period : ℕ) (fs gs : List (Figures A)) → Whole period fs → Whole period gs → Whole period (fs ++ gs)
  whole_append period [] gs h k = k
  whole_append period (f ∷ fs) gs h k = (h.0, whole_append period fs gs h.1 k)

  -- what a sample keeps
  pub record Going (period : ℕ) (r : Running A) : Type 0 where
    pub same : r.summary.counts.period ≡ period
    pub whole : Whole period r.finished

  going_next : (period : ℕ) (r : Running A) (o : Outcome A) → Going period r → Going period (next_of F r o)
  going_next period r o w = go (full_of (noted F r.summary o).counts) refl
    where
      n : Summary A
      n = noted F r.summary o

      go : (t : Bool) → full_of n.counts ≡ t
          → Going period (cond t
          (record { finished = r.finished ++ (figures_of n ∷ []); summary = record { counts = emptied n.counts; magnitude = F.nought } })
          (record { finished = r.finished; summary = n }))
      go true e = record {
        same = w.same;
        whole = whole_append period r.finished (figures_of n ∷ []) w.whole (eqb-true (held_of n.counts) n.counts.period e ∙ w.same, tt);
      }
      go false e = record { same = w.same; whole = w.whole }

  pub going_through : (period : ℕ) (r : Running A) (os : List (Outcome A)) → Going period r → Going period (through F r os)
  going_through period r [] w = w
  going_through period r (o ∷ os) w = going_through period (next_of F r o) os (going_next period r o w)

  pub fit_through : {unsigned : A → Bool} → Unsigned F unsigned → (r : Running A) (os : List (Outcome A)) → Fitted F unsigned r.summary → Fitted F unsigned (through F r os).summary
  fit_through p r [] w = w
  fit_through p r (o ∷ os) w = fit_through p (next_of F r o) os (fit_next F _ p r o w)

  -- ---- parts one after the other
  -- what the steps of summary calls give, from the summary s on
  abbrev pub gathering : Summary A → List (Stepped A) → Gathered A
  gathering s zs = record {
    sum = map (λ z. z.sum) zs;
    difference = map (λ z. z.difference) zs;
    columns = columns_of (through F (begun s) (map outcome_of zs)).finished;
  }

  abbrev pub ending : Summary A → List (Stepped A) → Summary A
  ending s zs = (through F (begun s) (map outcome_of zs)).summary

  in_parts : (s : Summary A) (xs ys : List (Stepped A))
      → through F (begun s) (map outcome_of (xs ++ ys))
      ≡ put F (through F (begun s) (map outcome_of xs)).finished (through F (begun (ending s xs)) (map outcome_of ys))
  in_parts s xs ys =
      let r = through F (begun s) (map outcome_of xs) in
      ap (through F (begun s)) (map-append outcome_of xs ys)
      ∙ through_append F (begun s) (map outcome_of xs) (map outcome_of ys)
      ∙ ap (λ (fs : List (Figures A)). through F (record { finished = fs; summary = r.summary }) (map outcome_of ys)) (sym (append-nil r.finished))
      ∙ put_through F r.finished (begun r.summary) (map outcome_of ys)

  columns_parts : (fs gs : List (Figures A))
      → record {
        stereo = (columns_of fs).stereo ++ (columns_of gs).stereo;
        mono = (columns_of fs).mono ++ (columns_of gs).mono;
        changes = (columns_of fs).changes ++ (columns_of gs).changes;
        magnitude = (columns_of fs).magnitude ++ (columns_of gs).magnitude;
      }
      ≡ columns_of (fs ++ gs)
  columns_parts fs gs =
      λ j. record {
        stereo = sym (map-append (λ (f : Figures A). f.stereo) fs gs) j;
        mono = sym (map-append (λ (f : Figures A). f.mono) fs gs) j;
        changes = sym (map-append (λ (f : Figures A). f.changes) fs gs) j;
        magnitude = sym (map-append (λ (f : Figures A). f.magnitude) fs gs) j;
      }

  gathered_parts : (s : Summary A) (xs ys : List (Stepped A)) → followed (gathering s xs) (gathering (ending s xs) ys) ≡ gathering s (xs ++ ys)
  gathered_parts s xs ys =
      let fs = (through F (begun s) (map outcome_of xs)).finished in
      let gs = (through F (begun (ending s xs)) (map outcome_of ys)).finished in
      let columns = columns_parts fs gs ∙ ap (λ (r : Running A). columns_of r.finished) (sym (in_parts s xs ys)) in
      λ j. record {
        sum = sym (map-append (λ (z : Stepped A). z.sum) xs ys) j;
        difference = sym (map-append (λ (z : Stepped A). z.difference) xs ys) j;
        columns = columns j;
      }

-- ---- the machine over a list of calls
module _ {A : Type 0} (F : Arithmetic A) where
  steps_append : (d : Pll A) (es fs : List (Event A)) → steps_of F d (es ++ fs) ≡ steps_of F d es ++ steps_of F (after F d es) fs
  steps_append d [] fs = refl
  steps_append d (sample t x p ∷ es) fs = let z = step_of F t d x p in ap (λ (zs : List (Stepped A)). z ∷ zs) (steps_append z.pll es fs)
  steps_append d (switch b ∷ es) fs = steps_append (enabled_of b d) es fs
  steps_append d (clear ∷ es) fs = steps_append (reset_of F.nought d) es fs

  -- a block's samples one after the other
  steps_samples : (t mpx pilot : List A) (d : Pll A) (n : ℕ)
      → steps_of F d (samples n (λ i. sample t (get_or mpx i F.nought) (get_or pilot i F.nought))) ≡ samples n (λ i. step_at F t mpx pilot d i)
  unfolding samples
  steps_samples t mpx pilot d zero = refl
  steps_samples t mpx pilot d (suc n) =
      let e : ℕ → Event A = λ i. sample t (get_or mpx i F.nought) (get_or pilot i F.nought) in
      steps_append d (samples n e) (e n ∷ [])
      ∙ ap (λ (p : Pll A). steps_of F d (samples n e) ++ steps_of F p (e n ∷ [])) (sym (after_samples F t mpx pilot d n))
      ∙ ap (λ (zs : List (Stepped A)). zs ++ (step_at F t mpx pilot d n ∷ [])) (steps_samples t mpx pilot d n)

module _ {A : Type 0} (C : Core A) where
  abbrev F : Arithmetic A
  F = C.arithmetic

  -- the steps of a call, if it has a summary, and of all such calls of a list
  abbrev own_steps : Pll A → Call A → List (Stepped A)
  own_steps m c = cond (summarizes c) (steps_of F m (events_of C m c)) []

  abbrev pub all_steps : Pll A → List (Call A) → List (Stepped A)
  all_steps m [] = []
  all_steps m (c ∷ cs) = own_steps m c ++ all_steps (call_of C m c).decoder cs

  -- what one call adds to the summary s that it brings
  record Adds (m : Pll A) (s : Summary A) (c : Call A) : Type 0 where
    gives : let l = call_of C m c in cond (summarizes c && accepts l.said) (outputs_of l.outputs) none ≡ gathering F s (own_steps m c)
    leaves : summary_in s (call_of C m c).outputs ≡ ending F s (own_steps m c)

  summary_adds : (m : Pll A) (s : Summary A) (b : Brought A) (c : Columns A) → Adds m s (summary s b c)
  unfolding summary_of summary_run run_of
  summary_adds m s b c = let e = go (says_summary F C.unsigned m s b c) in record { gives = e.0; leaves = e.1 }
    where
      left : Said → Summarized A
      left u = kept u (summary_run F m s b.table b.mpx b.pilot) (record { said = u; sum = b.first; difference = b.second; columns = c; pll = m; summary = s })

      zs : Said → List (Stepped A)
      zs u = steps_of F m (samples_of C (left u).said b)

      step : ℕ → Stepped A
      step i = step_at F b.table b.mpx b.pilot m i

      n : ℕ
      n = length b.mpx

      steps : zs accepted ≡ samples n step
      steps = steps_samples F b.table b.mpx b.pilot m n

      read : samples n (λ i. outcome_of (step i)) ≡ map outcome_of (zs accepted)
      read = sym (ap (map outcome_of) steps ∙ map_samples outcome_of n step)

      go : (u : Said)
          → (cond (accepts (left u).said) (record { sum = (left u).sum; difference = (left u).difference; columns = (left u).columns }) none ≡ gathering F s (zs u))
          × ((left u).summary ≡ ending F s (zs u))
      go accepted = (
        (λ j. record {
          sum = sym (ap (map (λ (z : Stepped A). z.sum)) steps ∙ map_samples (λ z. z.sum) n step) j;
          difference = sym (ap (map (λ (z : Stepped A). z.difference)) steps ∙ map_samples (λ z. z.difference) n step) j;
          columns = columns_of (through F (begun s) (read j)).finished;
        }),
        ap (λ (os : List (Outcome A)). (through F (begun s) os).summary) read,
      )
      go (turned x) = (refl, refl)
      go (lengths x y z) = (refl, refl)

  adds : (m : Pll A) (s : Summary A) (c : Call A) → Brings s c → Adds m s c
  adds m s (block b) h = record { gives = refl; leaves = refl }
  adds m s (merged b) h = record { gives = refl; leaves = refl }
  adds m s (summary own b c) h = subst (λ (s : Summary A). Adds m s (summary own b c)) h (summary_adds m own b c)
  adds m s enable h = record { gives = refl; leaves = refl }
  adds m s disable h = record { gives = refl; leaves = refl }
  adds m s reset h = record { gives = refl; leaves = refl }

  -- a list of calls that hand the summary on
  pub list_adds : (m : Pll A) (s : Summary A) (cs : List (Call A)) → HandedOn s cs (machine C m cs)
      → (gathered cs (machine C m cs) ≡ gathering F s (all_steps m cs)) × (last_summary s (machine C m cs) ≡ ending F s (all_steps m cs))
  list_adds m s [] h = (refl, refl)
  list_adds m s (c ∷ cs) h =
      let l = call_of C m c in
      let zs = own_steps m c in
      let ys = all_steps l.decoder cs in
      let a = adds m s c h.0 in
      let r = list_adds l.decoder (summary_in s l.outputs) cs h.1 in (
        (λ j. followed (a.gives j) (r.0 j))
            ∙ ap (λ (t : Summary A). followed (gathering F s zs) (gathering F t ys)) a.leaves
            ∙ gathered_parts F s zs ys,
        r.1
            ∙ ap (λ (t : Summary A). ending F t ys) a.leaves
            ∙ ap (λ (q : Running A). q.summary) (sym (in_parts F s zs ys)),
      )

  -- the raw history is what these steps show
  pub raw_is : (m : Pll A) (cs : List (Call A)) → raw_of C m cs ≡ map outcome_of (all_steps m cs)
  raw_is m [] = refl
  raw_is m (c ∷ cs) =
      (λ j. own (summarizes c) (steps_of F m (events_of C m c)) j ++ raw_is (call_of C m c).decoder cs j)
      ∙ sym (map-append outcome_of (own_steps m c) (all_steps (call_of C m c).decoder cs))
    where
      own : (t : Bool) (zs : List (Stepped A)) → cond t (map outcome_of zs) [] ≡ map outcome_of (cond t zs [])
      own true zs = refl
      own false zs = refl

  -- what the marked samples leave
  abbrev pub marked_steps : Pll A → List (Marked A) → List (Stepped A)
  marked_steps m [] = []
  marked_steps m (x ∷ xs) = cond x.summarized (steps_of F m (x.event ∷ [])) [] ++ marked_steps (event_of F m x.event) xs

  -- .. of events that are marked alike, and others after them
  marked_alike : (b : Bool) (m : Pll A) (es : List (Event A)) (xs : List (Marked A))
      → marked_steps m (map (λ e. record { summarized = b; event = e }) es ++ xs) ≡ cond b (steps_of F m es) [] ++ marked_steps (after F m es) xs
  marked_alike true m [] xs = refl
  marked_alike true m (sample t x p ∷ es) xs = let z = step_of F t m x p in ap (λ (zs : List (Stepped A)). z ∷ zs) (marked_alike true z.pll es xs)
  marked_alike true m (switch b ∷ es) xs = marked_alike true (enabled_of b m) es xs
  marked_alike true m (clear ∷ es) xs = marked_alike true (reset_of F.nought m) es xs
  marked_alike false m [] xs = refl
  marked_alike false m (e ∷ es) xs = marked_alike false (event_of F m e) es xs

  -- the steps of summary calls are those of the events that are marked
  pub all_marked : (m : Pll A) (cs : List (Call A)) → all_steps m cs ≡ marked_steps m (marked C m cs)
  all_marked m [] = refl
  all_marked m (c ∷ cs) =
      let d = (call_of C m c).decoder in
      (λ j. own_steps m c ++ all_marked d cs j)
      ∙ ap (λ (d : Pll A). own_steps m c ++ marked_steps d (marked C (call_of C m c).decoder cs)) (call_after C m c)
      ∙ sym (marked_alike (summarizes c) m (events_of C m c) (marked C d cs))

  -- the events are all marked, one way or the other
  pub all_events : (m : Pll A) (cs : List (Call A)) → events C m cs ≡ map (λ x. x.event) (marked C m cs)
  all_events m [] = refl
  all_events m (c ∷ cs) = own (summarizes c) (events_of C m c) (marked C d cs) (all_events d cs)
    where
      d : Pll A
      d = (call_of C m c).decoder

      own : (b : Bool) (es : List (Event A)) {fs : List (Event A)} (xs : List (Marked A)) → fs ≡ map (λ x. x.event) xs
          → es ++ fs ≡ map (λ x. x.event) (map (λ e. record { summarized = b; event = e }) es ++ xs)
      own b [] xs h = h
      own b (e ∷ es) xs h = ap (λ (fs : List (Event A)). e ∷ fs) (own b es xs h)
