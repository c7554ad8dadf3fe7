-- The ways out of a merged block, over the format, from what its block answered and left. Assumes nothing.
use mathlib.Core.Path.{◌≡◌, sym, ap, ◌∙◌}
use mathlib.Core.Bool.{Bool, true, false, cond, false≢true}
use mathlib.Core.List.{List}
use lib.ListN.{length}
use Rattle.answers.specs.Answer.{Said, accepted, turned, lengths, accepts}
use Rattle.answers.proofs.Passes.{length_samples}
use Rattle.matrix.specs.Matrix.{Matrixed}
use Rattle.decoder_record.specs.State.{Pll}
use Rattle.decoder.specs.Machine.{Arithmetic, Blocked, step_at, run_of, block_says, block_of}
use Rattle.merged.specs.Merged.{merged_by, Merged, merged_of}

module _ {A : Type 0} (F : Arithmetic A) (t mpx pilot left right : List A) (d : Pll A) where
  -- an accepted block has left two outputs of one length
  block_even : accepts (block_of F d t mpx pilot left right).said ≡ true
      → length (block_of F d t mpx pilot left right).difference ≡ length (block_of F d t mpx pilot left right).sum
  unfolding block_of run_of
  block_even = go (block_says F d (length t) (length mpx) (length pilot) (length left) (length right))
    where
      old : Said → Blocked A
      old s = record { said = s; sum = left; difference = right; pll = d }

      ran : length (run_of F d t mpx pilot).difference ≡ length (run_of F d t mpx pilot).sum
      ran =
          length_samples (length mpx) (λ i. (step_at F t mpx pilot d i).difference)
          ∙ sym (length_samples (length mpx) (λ i. (step_at F t mpx pilot d i).sum))

      go : (s : Said) → accepts (cond (accepts s) (run_of F d t mpx pilot) (old s)).said ≡ true
          → length (cond (accepts s) (run_of F d t mpx pilot) (old s)).difference ≡ length (cond (accepts s) (run_of F d t mpx pilot) (old s)).sum
      go accepted h = ran
      go (turned n) h = absurd (false≢true h)
      go (lengths n a b) h = absurd (false≢true h)

  -- a block that answered s and left these
  module _ (matrix : List A → List A → Matrixed A) {s : Said} {sum difference : List A} {next : Pll A}
      (b : record { said = s; sum = sum; difference = difference; pll = next } ≡ block_of F d t mpx pilot left right) where
    pub even : accepts s ≡ true → length difference ≡ length sum
    even h =
        ap (λ (z : Blocked A). length z.difference) b
        ∙ block_even (ap (λ (z : Blocked A). accepts z.said) (sym b) ∙ h)
        ∙ ap (λ (z : Blocked A). length z.sum) (sym b)

    -- a merged block from what its block answered and left
    abbrev of : Blocked A → Merged A
    of z = let m = merged_by matrix z.said z.sum z.difference in record { said = z.said; left = m.left; right = m.right; pll = z.pll }

    is_merged : of (record { said = s; sum = sum; difference = difference; pll = next }) ≡ merged_of F matrix d t mpx pilot left right
    unfolding merged_of
    is_merged = ap of b

    -- its outputs by the test of the answer, and all that it leaves by its outputs
    abbrev sides : Bool → Matrixed A
    sides a = cond a (matrix sum difference) (record { said = s; left = sum; right = difference })

    abbrev leaves : Matrixed A → Merged A
    leaves m = record { said = s; left = m.left; right = m.right; pll = next }

    pub refused : accepts s ≡ false → record { said = s; left = sum; right = difference; pll = next } ≡ merged_of F matrix d t mpx pilot left right
    refused h = ap (λ (a : Bool). leaves (sides a)) (sym h) ∙ is_merged

    pub carried_out : {ls rs : List A} → accepts s ≡ true → record { said = accepted; left = ls; right = rs } ≡ matrix sum difference
        → record { said = s; left = ls; right = rs; pll = next } ≡ merged_of F matrix d t mpx pilot left right
    carried_out h k = ap leaves (k ∙ ap sides (sym h)) ∙ is_merged
