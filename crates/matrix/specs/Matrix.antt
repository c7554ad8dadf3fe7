-- The stereo matrix: sum and difference to left and right. Sources: document 01, "Matrix"; ITU-R BS.450, which
-- sends M = (L + R)/2 and, on the subcarrier, S = (L - R)/2.
-- The demodulator multiplies by the sine of the subcarrier, which halves S, so the difference comes here as
-- S/2, and L = M + S and R = M - S take it twice. Definitions only.
use Rattle.std.specs.Prelude.{ℕ, List, [], ◌∷◌, length, get_or, ℤ, pos, ◌+ℤ◌, ◌-ℤ◌, ◌*ℤ◌, Float}
use Rattle.std.specs.Float.{nan, binary32}
use Rattle.std.specs.Float.Ieee.{add, sub}
use Rattle.numbers.specs.Integers.{sat16_of}
use Rattle.answers.specs.Answer.{Said, accepted, first_cause, input_rule, output_rule, kept}
use Rattle.answers.specs.Samples.{samples}

-- f32: d2 = d + d, then s + d2 and s - d2, each rounded once
abbrev pub left_f32 : Float → Float → Float
left_f32 s d = add binary32 s (add binary32 d d)

abbrev pub right_f32 : Float → Float → Float
right_f32 s d = sub binary32 s (add binary32 d d)

-- Q15: s + 2d and s - 2d, exact and then limited
unfoldable pub left_q15 : ℤ → ℤ → ℤ
left_q15 s d = sat16_of (s +ℤ pos 2 *ℤ d)

unfoldable pub right_q15 : ℤ → ℤ → ℤ
right_q15 s d = sat16_of (s -ℤ pos 2 *ℤ d)

-- the causes, in order: 10 for the difference, 11 for left, 11 for right
abbrev pub matrix_says : ℕ → ℕ → ℕ → ℕ → Said
matrix_says sum difference left right =
    first_cause (input_rule sum difference ∷ output_rule sum left ∷ output_rule sum right ∷ [])

-- what a call answers and leaves in its outputs
pub record Matrixed (A : Type 0) : Type 0 where
  pub said : Said
  pub left : List A
  pub right : List A

-- over the format, by its two sums; z stands for a sample past the end, of which none is read
abbrev pub filled_by : {A : Type 0} → (A → A → A) → (A → A → A) → A → List A → List A → Matrixed A
filled_by l r z sum difference =
    let n = length sum in
    record {
      said = accepted;
      left = samples n (λ i. l (get_or sum i z) (get_or difference i z));
      right = samples n (λ i. r (get_or sum i z) (get_or difference i z));
    }

abbrev pub matrix_by : {A : Type 0} → (A → A → A) → (A → A → A) → A → List A → List A → List A → List A → Matrixed A
matrix_by l r z sum difference left right =
    let said = matrix_says (length sum) (length difference) (length left) (length right) in
    kept said (filled_by l r z sum difference) (record { said = said; left = left; right = right })

abbrev pub filled_f32 : List Float → List Float → Matrixed Float
filled_f32 = filled_by left_f32 right_f32 nan

abbrev pub matrix_f32 : List Float → List Float → List Float → List Float → Matrixed Float
matrix_f32 = matrix_by left_f32 right_f32 nan

abbrev pub filled_q15 : List ℤ → List ℤ → Matrixed ℤ
filled_q15 = filled_by left_q15 right_q15 (pos 0)

abbrev pub matrix_q15 : List ℤ → List ℤ → List ℤ → List ℤ → Matrixed ℤ
matrix_q15 = matrix_by left_q15 right_q15 (pos 0)
