-- What a fast f32 call answers, in document 01's numbers, and the count that it carries. Source: document 02,
-- request 7: "the block's answer carries how many corrections took the wide way". Definitions only.
use Rattle.std.specs.Prelude.{ℕ, Result, Ok, Err}
use Rattle.answers.specs.Answer.{Said, accepted, turned, lengths, says_refusal}
use Rattle.answers.specs.declared.answer.Refusal.{Refusal}

-- a count, or none: a refusal carries none
pub data Count : Type 0 where
  none : Count
  count : ℕ → Count

-- the program's answers in these terms: without the count, and the count alone
abbrev pub said_in : Result ℕ Refusal → Said
said_in (Ok n) = accepted
said_in (Err refusal) = says_refusal refusal

abbrev pub count_in : Result ℕ Refusal → Count
count_in (Ok n) = count n
count_in (Err refusal) = none

-- what a call carries that says this, with n such corrections among its samples
abbrev pub carried : Said → ℕ → Count
carried accepted n = count n
carried (turned k) n = none
carried (lengths k wanted found) n = none

-- where a count stands among numbers, as in C: 0 for none
abbrev pub number_in : Count → ℕ
number_in none = 0
number_in (count n) = n
