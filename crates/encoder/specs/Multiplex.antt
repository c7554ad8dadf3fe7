-- The multiplex: one sample, and the encoder's block. Sources: ITU-R BS.450 (M, S on the subcarrier at twice
-- the pilot's phase, the pilot); document 01, "`StereoEncode`", "Calls turned back". Definitions only.
use Rattle.std.specs.Prelude.{ℕ, ◌+◌, ◌*◌, ◌%◌, ◌^◌, false, List, [], ◌∷◌, length, negsuc, slice_index_or, Float}
use Rattle.std.specs.Float.{nan, fin, binary32}
use Rattle.std.specs.Float.Ieee.{add, sub, mul}
use Rattle.lookup.specs.Lookup.{sine_at, cos_f32}
use Rattle.answers.specs.Answer.{Said, first_cause, table_rule, input_rule, output_rule, kept}
use Rattle.answers.specs.Samples.{samples}
use Rattle.encoder_record.specs.Encode.{encode_at}
use Rattle.encoder_record.specs.declared.encode.StereoEncode.{StereoEncode}

-- ---- one sample, at the pilot's phase p
-- sum and difference: m and d are the sum and the difference of left and right, rounded, then halved; d is on
-- the subcarrier s2
abbrev pub mixed_of : Float → Float → Float → Float → Float
mixed_of main left right s2 =
    let half = fin false 1 (negsuc 0) in
    let m = mul binary32 (add binary32 left right) half in
    let d = mul binary32 (sub binary32 left right) half in
    add binary32 (mul binary32 main m) (mul binary32 (mul binary32 main d) s2)

-- plus the pilot; the products come first, then the sums from left to right
unfoldable pub multiplex_of : List Float → Float → Float → ℕ → Float → Float → Float
multiplex_of t main pilot p left right =
    add binary32 (mixed_of main left right (cos_f32 t (sine_at 2 p))) (mul binary32 pilot (cos_f32 t (sine_at 1 p)))

-- ---- blocks: the pilot's phase before sample i
abbrev pub phase_at : StereoEncode → ℕ → ℕ
phase_at e i = (e.nco.phase + i * e.nco.inc) % 2 ^ 32

-- what a block answers, its output, and the next record
pub record Encoded (E : Type 0) : Type 0 where
  pub said : Said
  pub output : List Float
  pub encoder : E

-- the causes, in order: 9, 10 for right, 11
abbrev pub encode_says : ℕ → ℕ → ℕ → ℕ → Said
encode_says table left right output =
    first_cause (table_rule table ∷ input_rule left right ∷ output_rule left output ∷ [])

abbrev pub encode_of : StereoEncode → List Float → List Float → List Float → List Float → Encoded StereoEncode
encode_of e table left right output =
    let n = length left in
    let said = encode_says (length table) n (length right) (length output) in
    record {
      said = said;
      output = kept said
          (samples n (λ i. multiplex_of table e.main e.pilot (phase_at e i) (slice_index_or left i nan) (slice_index_or right i nan)))
          output;
      encoder = kept said (encode_at e (phase_at e n)) e;
    }
