-- The matrix block over the format: what it leaves when it is turned back and when it is carried out. Assumes
-- nothing.
use Prim.Native.Nat.{ℕ}
use mathlib.Core.Path.{◌≡◌}
use mathlib.Core.Bool.{true, false}
use mathlib.Core.List.{List, [], ◌∷◌}
use lib.ListN.{length}
use Rattle.answers.specs.Answer.{Said, accepted, accepts, input_rule, output_rule}
use Rattle.matrix.specs.Matrix.{matrix_says, filled_by, matrix_by}
use Rattle.answers.proofs.Causes.{none_yet, each, length_is}

-- an accepted call has four equal lengths
pub lengths_equal : (n d l r : ℕ) → accepts (matrix_says n d l r) ≡ true → (d ≡ n) × (l ≡ n) × (r ≡ n)
lengths_equal n d l r h =
    let x = each (input_rule n d ∷ output_rule n l ∷ output_rule n r ∷ []) h in
    (length_is 10 n d x.0, length_is 11 n l x.1.0, length_is 11 n r x.1.1.0)

module _ {A : Type 0} (l r : A → A → A) (z : A) (sum difference left right : List A) (s : Said)
    (e : s ≡ matrix_says (length sum) (length difference) (length left) (length right)) where
  pub turned_back : accepts s ≡ false → record { said = s; left = left; right = right } ≡ matrix_by l r z sum difference left right
  turned_back h = rw (← e, h)

  pub carried_out : {ls rs : List A} → accepts s ≡ true → record { said = accepted; left = ls; right = rs } ≡ filled_by l r z sum difference
      → record { said = s; left = ls; right = rs } ≡ matrix_by l r z sum difference left right
  carried_out h k = rw (← e, h, none_yet s h) k
