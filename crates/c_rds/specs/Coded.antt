-- What a group's call gives in C: the answer's numbers, the output, and the bit that is carried on. Definitions only.
use Rattle.std.specs.Prelude.{ℕ, List}
use Rattle.answers.specs.Answer.{code_of}
use Rattle.answers.specs.Coded.{switch_of}
use Rattle.answers.specs.declared.answer.Code.{Code}
use Rattle.rds.specs.Former.{Formed}

pub record CodedGroup : Type 0 where
  pub answer : Code
  pub output : List ℕ
  pub carried : ℕ

abbrev pub coded_group : Formed → CodedGroup
coded_group f =
    record { answer = code_of f.said; output = f.sent.output; carried = switch_of f.sent.carried }
