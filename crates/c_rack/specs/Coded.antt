-- What a round of a rack gives in C, over the format. Definitions only.
use Rattle.std.specs.Prelude.{ℕ, List, map}
use Rattle.answers.specs.Answer.{code_of}
use Rattle.answers.specs.declared.answer.Code.{Code}
use Rattle.rack_round.specs.Flat.{Flat}
use Rattle.c_decoder.specs.Coded.{Decoder, given_of}

-- the answer's numbers, how many samples each decoder took, the outputs, the next records, and their number,
-- which stays
pub record CodedRound (A : Type 0) : Type 0 where
  pub answer : Code
  pub taken : List ℕ
  pub sum : List A
  pub difference : List A
  pub decoders : List (Decoder A)
  pub number : ℕ

abbrev pub coded_round : {A : Type 0} → ℕ → Flat A → CodedRound A
coded_round number r = record {
  answer = code_of r.said;
  taken = r.taken;
  sum = r.sum;
  difference = r.difference;
  decoders = map given_of r.decoders;
  number = number;
}
