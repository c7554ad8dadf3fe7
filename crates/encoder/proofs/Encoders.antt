-- The encoders' blocks: the lengths of an accepted one, and, over the encoder's record, what a block leaves
-- when it is turned back and when it is carried out. Assumes nothing.
use Rattle.std.proofs.Common.{◌≡◌, ℕ, true, false, List, [], ◌∷◌}
use lib.Ieee.{Float}
use Rattle.answers.specs.Answer.{Said, accepts, entries, table_rule, input_rule, output_rule, kept}
use Rattle.encoder.specs.Multiplex.{encode_says, Encoded}
use Rattle.answers.proofs.Causes.{each, length_is}

-- n is the length of left, and the others those of table, right and output
pub encode_lengths : (t n r o : ℕ) → accepts (encode_says t n r o) ≡ true → (t ≡ entries) × (r ≡ n) × (o ≡ n)
encode_lengths t n r o h =
    let x = each (table_rule t ∷ input_rule n r ∷ output_rule n o ∷ []) h in
    (length_is 9 entries t x.0, length_is 10 n r x.1.0, length_is 11 n o x.1.1.0)

module _ {E : Type 0} {s said : Said} (q : s ≡ said) where
  -- what a block leaves by its answer: the samples it made, and the next encoder
  abbrev leaves : List Float → List Float → E → E → Encoded E
  leaves made old next e = record { said = said; output = kept said made old; encoder = kept said next e }

  pub turned_back : (made : List Float) {old : List Float} (next : E) {e : E} → accepts s ≡ false
      → record { said = s; output = old; encoder = e } ≡ leaves made old next e
  turned_back made next h = rw (← q, h)

  pub carried_out : {made out : List Float} (old : List Float) {next after : E} (e : E) → accepts s ≡ true → out ≡ made → after ≡ next
      → record { said = s; output = out; encoder = after } ≡ leaves made old next e
  carried_out old e h x y = rw (← q, h, x, y)
