-- How many corrections of a block took the wide way, over the machine: f of each sample, whatever way a program
-- went. Over the format, by its rule `wide`; in f32 it is `is_wide`. Source: document 02, request 7: "samples at
-- which |v| is not below 2^51". Definitions only.
use Rattle.std.specs.Prelude.{ℕ, zero, suc, ◌+◌, Bool, cond, List, length, get_or, Float}
use Rattle.phase.specs.Correction.{is_wide}
use Rattle.answers.specs.Answer.{Said}
use Rattle.counted.specs.Counted.{Count, carried}
use Rattle.decoder_record.specs.State.{Pll}
use Rattle.decoder.specs.Machine.{Arithmetic, error_of, frequency_of, state_at, block_says}
use Rattle.decoder.specs.F32.{f32}

module _ {A : Type 0} (F : Arithmetic A) (wide : A → Bool) where
  -- whether the correction takes the wide way at a sample with this table, state and pilot
  abbrev pub wide_at : List A → Pll A → A → Bool
  wide_at t d p = wide (frequency_of F d (error_of F t d p))

  -- at how many of the first n samples it does
  unfoldable pub wide_up_to : List A → List A → List A → Pll A → ℕ → ℕ
  wide_up_to t mpx pilot d zero = 0
  wide_up_to t mpx pilot d (suc i) =
      wide_up_to t mpx pilot d i + cond (wide_at t (state_at F t mpx pilot d i) (get_or pilot i F.nought)) 1 0

  -- what a call's answer carries that says this
  abbrev pub count_of : Said → Pll A → List A → List A → List A → Count
  count_of said d t mpx pilot = carried said (wide_up_to t mpx pilot d (length mpx))

  -- .. of a block
  unfoldable pub block_count : Pll A → List A → List A → List A → List A → List A → Count
  block_count d t mpx pilot sum difference =
      count_of (block_says F d (length t) (length mpx) (length pilot) (length sum) (length difference)) d t mpx pilot

-- in f32
abbrev pub count_f32 : Pll Float → List Float → List Float → List Float → List Float → List Float → Count
count_f32 = block_count f32 is_wide
