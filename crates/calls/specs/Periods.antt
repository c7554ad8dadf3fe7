-- Summaries from a raw history, the list of decision and difference after each sample: it is cut into periods,
-- and each is counted. Nothing here knows of blocks. Source: document 02, request 4. Definitions only.
use Rattle.std.specs.Prelude.{ℕ, zero, suc, ◌+◌, ◌*◌, ◌/◌, Bool, true, false, cond, List, [], ◌∷◌, length, take, drop}
use Rattle.decoder.specs.Machine.{Arithmetic}
use Rattle.summary_counts.specs.Counts.{unlike}
use Rattle.summary_record.specs.Record.{Summary, larger_of}
use Rattle.summary_call.specs.Summary.{Outcome, Figures}

module _ {A : Type 0} where
  -- the samples with this decision
  abbrev pub decided : Bool → List (Outcome A) → ℕ
  decided b [] = 0
  decided b (o ∷ os) = cond (unlike b o.stereo) 0 1 + decided b os

  -- the samples whose decision is unlike the one before, `before` standing before the first
  abbrev pub changes_from : Bool → List (Outcome A) → ℕ
  changes_from before [] = 0
  changes_from before (o ∷ os) = cond (unlike before o.stereo) 1 0 + changes_from o.stereo os

  -- the last decision
  abbrev pub last_from : Bool → List (Outcome A) → Bool
  last_from before [] = before
  last_from before (o ∷ os) = last_from o.stereo os

module _ {A : Type 0} (F : Arithmetic A) where
  -- the largest magnitude of the differences and m
  abbrev pub largest_from : A → List (Outcome A) → A
  largest_from m [] = m
  largest_from m (o ∷ os) = largest_from (larger_of F m o.difference) os

  -- the figures of a period, or of a part of one
  abbrev pub figures_from : Bool → List (Outcome A) → Figures A
  figures_from before os = record {
    stereo = decided true os;
    mono = decided false os;
    changes = changes_from before os;
    magnitude = largest_from F.nought os;
  }

  -- k whole periods
  unfoldable pub whole_periods : ℕ → ℕ → Bool → List (Outcome A) → List (Figures A)
  whole_periods period zero before os = []
  whole_periods period (suc k) before os =
      let first = take period os in
      figures_from before first ∷ whole_periods period k (last_from before first) (drop period os)

  -- mono stands before the first sample
  abbrev pub finished_of : ℕ → List (Outcome A) → List (Figures A)
  finished_of period os = whole_periods period (length os / period) false os

  -- what is left over, as a summary's record
  unfoldable pub unfinished_of : ℕ → List (Outcome A) → Summary A
  unfinished_of period os =
      let whole = length os / period * period in
      let f = figures_from (last_from false (take whole os)) (drop whole os) in
      record {
        counts = record {
          period = period;
          stereo = f.stereo;
          mono = f.mono;
          changes = f.changes;
          before = last_from false os;
        };
        magnitude = f.magnitude;
      }
