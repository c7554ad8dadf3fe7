-- What a merged block gives in C, over the format: the answer's numbers, the outputs, and the next record.
-- Definitions only.
use Rattle.std.specs.Prelude.{List}
use Rattle.answers.specs.Answer.{code_of}
use Rattle.answers.specs.declared.answer.Code.{Code}
use Rattle.merged.specs.Merged.{Merged}
use Rattle.c_decoder.specs.Coded.{Decoder, given_of}

pub record CodedMerged (A : Type 0) : Type 0 where
  pub answer : Code
  pub left : List A
  pub right : List A
  pub decoder : Decoder A

abbrev pub coded_merged : {A : Type 0} → Merged A → CodedMerged A
coded_merged r =
    record { answer = code_of r.said; left = r.left; right = r.right; decoder = given_of r.pll }
