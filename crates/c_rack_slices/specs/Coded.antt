-- What a round whose decoders have slices of their own gives in C, over the format. Definitions only.
use Rattle.std.specs.Prelude.{ℕ, List, map}
use Rattle.answers.specs.Answer.{code_of}
use Rattle.answers.specs.declared.answer.Code.{Code}
use Rattle.rack_slices_round.specs.Slices.{Sliced}
use Rattle.c_decoder.specs.Coded.{Decoder, given_of}

-- the answer's numbers, how many samples each decoder took, the slices of both outputs, the next records, and
-- their number, which stays
pub record CodedSlices (A : Type 0) : Type 0 where
  pub answer : Code
  pub taken : List ℕ
  pub sum : List (List A)
  pub difference : List (List A)
  pub decoders : List (Decoder A)
  pub number : ℕ

abbrev pub coded_slices : {A : Type 0} → ℕ → Sliced A → CodedSlices A
coded_slices number r = record {
  answer = code_of r.said;
  taken = r.taken;
  sum = r.sum;
  difference = r.difference;
  decoders = map given_of r.decoders;
  number = number;
}
