-- The counts of a summary, the same in both formats: its period, the stereo samples, mono samples and changes
-- that it holds, and the decision of the sample before. Source: document 02, request 4. Definitions only.
use Rattle.std.specs.Prelude.{ℕ, ◌+◌, ◌/◌, ◌%◌, ◌^◌, Bool, false, cond, not, ◌&&◌, [], ◌∷◌, ◌==◌, nat_le, nat_lt}
use Rattle.answers.specs.Answer.{Said, rule, output_rule, first_cause}
use Rattle.summary_counts.specs.declared.Counts.{Counts}

-- a fresh one holds nothing and has mono before its first sample
abbrev pub fresh_counts : ℕ → Counts
fresh_counts period = record { period = period; stereo = 0; mono = 0; changes = 0; before = false }

-- the samples held
abbrev pub held_of : Counts → ℕ
held_of c = c.stereo + c.mono

-- the decisions of two samples are unlike
abbrev pub unlike : Bool → Bool → Bool
unlike a b = cond a (not b) b

-- one sample more, by the decision after it
abbrev pub counted_of : Counts → Bool → Counts
counted_of c stereo = record {
  period = c.period;
  stereo = c.stereo + cond stereo 1 0;
  mono = c.mono + cond stereo 0 1;
  changes = c.changes + cond (unlike c.before stereo) 1 0;
  before = stereo;
}

-- .. in u32, where each count wraps; those of a summary that is taken stay below its period
abbrev pub wrapped : Counts → Counts
wrapped c = record {
  period = c.period;
  stereo = c.stereo % 2 ^ 32;
  mono = c.mono % 2 ^ 32;
  changes = c.changes % 2 ^ 32;
  before = c.before;
}

-- the period ends with the sample that fills it, and the next one holds nothing
abbrev pub full_of : Counts → Bool
full_of c = held_of c == c.period

abbrev pub emptied : Counts → Counts
emptied c = record { period = c.period; stereo = 0; mono = 0; changes = 0; before = c.before }

-- how many periods end within n samples more
abbrev pub ending_of : Counts → ℕ → ℕ
ending_of c n = (held_of c + n) / c.period

-- a period that is not 0 and that the samples held do not reach, and no more changes than these
unfoldable pub counts_fit : Counts → Bool
counts_fit c = not (c.period == 0) && (nat_lt (held_of c) c.period && nat_le c.changes (held_of c))

-- the places of the columns: none for counts that are not fit, which no call takes
abbrev pub places_of : Counts → ℕ → ℕ
places_of c n = cond (counts_fit c) (ending_of c n) 0

-- 20 unless the summary is fit, then what the block says, then 11 for each column, of these lengths
abbrev pub call_says : Bool → Counts → Said → ℕ → ℕ → ℕ → ℕ → ℕ → Said
call_says fit c block n stereo mono changes magnitude =
    let places = places_of c n in
    first_cause
    (rule 20 fit
    ∷ block
    ∷ output_rule places stereo
    ∷ output_rule places mono
    ∷ output_rule places changes
    ∷ output_rule places magnitude
    ∷ [])
