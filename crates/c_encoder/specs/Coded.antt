-- What an encoder's calls give in C. Definitions only.
use Rattle.std.specs.Prelude.{false, List, pos, Float}
use Rattle.std.specs.Float.{fin}
use Rattle.answers.specs.Answer.{code_of}
use Rattle.answers.specs.declared.answer.Code.{Code}
use Rattle.c_oscillator.specs.CodedNco.{no_nco}
use Rattle.encoder_record.specs.declared.encode.StereoEncode.{StereoEncode}
use Rattle.encoder.specs.Multiplex.{Encoded}

-- ---- the record of zeros, which stands for what was not made
abbrev pub zero : Float
zero = fin false 0 (pos 0)

abbrev pub no_encode : StereoEncode
no_encode = record { nco = no_nco; main = zero; pilot = zero }

-- ---- a block: the answer's numbers, the output, and the next record
pub record CodedBlock (E : Type 0) : Type 0 where
  pub answer : Code
  pub output : List Float
  pub encoder : E

abbrev pub coded_block : {E : Type 0} → Encoded E → CodedBlock E
coded_block r = record { answer = code_of r.said; output = r.output; encoder = r.encoder }
