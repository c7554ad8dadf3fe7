-- What the matrix gives in C. Definitions only.
use Rattle.std.specs.Prelude.{List}
use Rattle.answers.specs.Answer.{code_of}
use Rattle.answers.specs.declared.answer.Code.{Code}
use Rattle.matrix.specs.Matrix.{Matrixed}

-- the answer's numbers and the outputs
pub record CodedMatrix (A : Type 0) : Type 0 where
  pub answer : Code
  pub left : List A
  pub right : List A

abbrev pub coded_matrix : {A : Type 0} → Matrixed A → CodedMatrix A
coded_matrix r = record { answer = code_of r.said; left = r.left; right = r.right }
