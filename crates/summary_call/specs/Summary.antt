-- A summary beside the pairs, over the format: figures for each period of a chosen number of samples, from the
-- decision and the difference output after each sample. Source: document 02, request 4. Definitions only.
use Rattle.std.specs.Prelude.{ℕ, Bool, cond, List, [], ◌∷◌, ◌++◌, map, length}
use Rattle.answers.specs.Answer.{Said, kept}
use Rattle.answers.specs.Samples.{samples}
use Rattle.decoder_record.specs.State.{Pll}
use Rattle.decoder.specs.Machine.{Arithmetic, Stepped, step_at, run_of, block_says}
use Rattle.summary_counts.specs.Counts.{counted_of, full_of, emptied, call_says}
use Rattle.summary_record.specs.Record.{Summary, larger_of, summary_fit}

-- ---- what a summary reads of a sample: the decision after it, and its difference output
pub record Outcome (A : Type 0) : Type 0 where
  pub stereo : Bool
  pub difference : A

abbrev pub outcome_of : {A : Type 0} → Stepped A → Outcome A
outcome_of s = record { stereo = s.pll.moving.stereo; difference = s.difference }

-- the figures of a period: stereo samples, mono samples, changes of the decision, largest magnitude of the
-- difference
pub record Figures (A : Type 0) : Type 0 where
  pub stereo : ℕ
  pub mono : ℕ
  pub changes : ℕ
  pub magnitude : A

abbrev pub figures_of : {A : Type 0} → Summary A → Figures A
figures_of s = record {
  stereo = s.counts.stereo;
  mono = s.counts.mono;
  changes = s.counts.changes;
  magnitude = s.magnitude;
}

-- the four further outputs, one a figure, and those of a list of finished periods
pub record Columns (A : Type 0) : Type 0 where
  pub stereo : List ℕ
  pub mono : List ℕ
  pub changes : List ℕ
  pub magnitude : List A

abbrev pub columns_of : {A : Type 0} → List (Figures A) → Columns A
columns_of fs = record {
  stereo = map (λ f. f.stereo) fs;
  mono = map (λ f. f.mono) fs;
  changes = map (λ f. f.changes) fs;
  magnitude = map (λ f. f.magnitude) fs;
}

-- the periods finished so far, and the summary
pub record Running (A : Type 0) : Type 0 where
  pub finished : List (Figures A)
  pub summary : Summary A

abbrev pub begun : {A : Type 0} → Summary A → Running A
begun s = record { finished = []; summary = s }

-- what a call answers and leaves: the block's outputs, the four columns, the decoder's state and the summary
pub record Summarized (A : Type 0) : Type 0 where
  pub said : Said
  pub sum : List A
  pub difference : List A
  pub columns : Columns A
  pub pll : Pll A
  pub summary : Summary A

-- ---- over the format, by its arithmetic
module _ {A : Type 0} (F : Arithmetic A) where
  -- one sample more, and the end of its period
  abbrev pub noted : Summary A → Outcome A → Summary A
  noted s o =
      record { counts = counted_of s.counts o.stereo; magnitude = larger_of F s.magnitude o.difference }

  abbrev pub closed : Running A → Running A
  closed r =
      let s = r.summary in
      cond (full_of s.counts)
      (record {
        finished = r.finished ++ (figures_of s ∷ []);
        summary = record { counts = emptied s.counts; magnitude = F.nought };
      })
      r

  abbrev pub next_of : Running A → Outcome A → Running A
  next_of r o = closed (record { finished = r.finished; summary = noted r.summary o })

  -- the samples in order
  abbrev pub through : Running A → List (Outcome A) → Running A
  through r [] = r
  through r (o ∷ os) = through (next_of r o) os

  -- what the block's samples give, and their summaries
  unfoldable pub summary_run : Pll A → Summary A → List A → List A → List A → Summarized A
  summary_run d s t mpx pilot =
      let b = run_of F d t mpx pilot in
      let r = through (begun s) (samples (length mpx) (λ i. outcome_of (step_at F t mpx pilot d i))) in
      record {
        said = b.said;
        sum = b.sum;
        difference = b.difference;
        columns = columns_of r.finished;
        pll = b.pll;
        summary = r.summary;
      }

-- ---- the call; `unsigned` says which magnitudes it takes
module _ {A : Type 0} (F : Arithmetic A) (unsigned : A → Bool) where
  -- 20, the block's own causes, then 11 for each column: as many places as periods end in n samples
  abbrev pub summary_says : Summary A → Said → ℕ → Columns A → Said
  summary_says s block n c =
      call_says (summary_fit F unsigned s) s.counts block n
      (length c.stereo) (length c.mono) (length c.changes) (length c.magnitude)

  -- what the samples give, or all stays
  unfoldable pub summary_of : Pll A → Summary A
      → List A → List A → List A → List A → List A → Columns A → Summarized A
  summary_of d s t mpx pilot sum difference c =
      let n = length mpx in
      let block = block_says F d (length t) n (length pilot) (length sum) (length difference) in
      let said = summary_says s block n c in
      kept said (summary_run F d s t mpx pilot)
      (record { said = said; sum = sum; difference = difference; columns = c; pll = d; summary = s })
