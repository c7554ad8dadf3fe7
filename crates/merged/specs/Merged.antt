-- A merged block: left and right from one call, the matrix of a decoder block's outputs. Source: document 02,
-- request 1; document 01, "Matrix". Definitions only.
use Rattle.std.specs.Prelude.{List}
use Rattle.answers.specs.Answer.{Said, kept}
use Rattle.matrix.specs.Matrix.{Matrixed}
use Rattle.decoder_record.specs.State.{Pll}
use Rattle.decoder.specs.Machine.{Arithmetic, block_of}

-- from what a block answered and left in its outputs: their matrix, or where it was refused they themselves
abbrev pub merged_by : {A : Type 0} → (List A → List A → Matrixed A) → Said → List A → List A → Matrixed A
merged_by matrix said sum difference =
    kept said (matrix sum difference) (record { said = said; left = sum; right = difference })

-- what a merged block answers and leaves: its two outputs and the state
pub record Merged (A : Type 0) : Type 0 where
  pub said : Said
  pub left : List A
  pub right : List A
  pub pll : Pll A

-- over the format, by its arithmetic and its matrix: the block's outputs lie where left and right come to lie
unfoldable pub merged_of : {A : Type 0} → Arithmetic A → (List A → List A → Matrixed A)
    → Pll A → List A → List A → List A → List A → List A → Merged A
merged_of F matrix d t mpx pilot left right =
    let b = block_of F d t mpx pilot left right in
    let m = merged_by matrix b.said b.sum b.difference in
    record { said = b.said; left = m.left; right = m.right; pll = b.pll }
