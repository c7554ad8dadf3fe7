-- A summary's record, over the format: what it holds, a fresh one, the larger of two magnitudes, and which
-- records a call takes (cause 20). Source: document 02, request 4. Definitions only.
use Rattle.std.specs.Prelude.{ℕ, Bool, not, cond, ◌&&◌, ◌||◌, ltb}
use Rattle.decoder.specs.Machine.{Arithmetic}
use Rattle.summary_counts.specs.declared.Counts.{Counts}
use Rattle.summary_counts.specs.Counts.{fresh_counts, held_of, counts_fit}

-- its counts, and the magnitude that it holds
pub record Summary (A : Type 0) : Type 0 where
  pub counts : Counts
  pub magnitude : A

-- over the format, by its arithmetic
module _ {A : Type 0} (F : Arithmetic A) where
  abbrev pub fresh_summary : ℕ → Summary A
  fresh_summary period = record { counts = fresh_counts period; magnitude = F.nought }

  -- the largest of a magnitude, a difference and its negative; a NaN is above nothing and is passed over
  abbrev pub larger_of : A → A → A
  larger_of m y = let a = cond (F.under m y) y m in cond (F.under a (F.minus y)) (F.minus y) a

  -- cause 20 is in force unless the counts are fit, and the magnitude is 0 where no sample is held, and no NaN,
  -- and without its sign bit; `unsigned` says the last two
  unfoldable pub summary_fit : (A → Bool) → Summary A → Bool
  summary_fit unsigned s =
      counts_fit s.counts
      && (unsigned s.magnitude && (ltb 0 (held_of s.counts) || not (F.under F.nought s.magnitude)))
