-- The multiplex with RDS: one sample, and the encoder's block. Sources: IEC 62106 (RDS at three times the pilot's
-- phase); document 01, "`StereoEncode`", "Calls turned back". Definitions only.
use Rattle.std.specs.Prelude.{ℕ, List, [], ◌∷◌, length, slice_index_or, Float}
use Rattle.std.specs.Float.{nan, binary32}
use Rattle.std.specs.Float.Ieee.{add, mul}
use Rattle.lookup.specs.Lookup.{sine_at, cos_f32}
use Rattle.answers.specs.Answer.{Said, first_cause, table_rule, input_rule, output_rule, kept}
use Rattle.answers.specs.Samples.{samples}
use Rattle.encoder_record_rds.specs.EncodeRds.{rds_at}
use Rattle.encoder_record_rds.specs.declared.rds.StereoEncodeRds.{StereoEncodeRds}
use Rattle.encoder.specs.Multiplex.{multiplex_of, phase_at, Encoded}

-- ---- one sample, at the pilot's phase p: the multiplex, plus (level times b) times s3
unfoldable pub multiplex_rds_of : List Float → Float → Float → Float → ℕ → Float → Float → Float → Float
multiplex_rds_of t main pilot level p left right b =
    add binary32 (multiplex_of t main pilot p left right) (mul binary32 (mul binary32 level b) (cos_f32 t (sine_at 3 p)))

-- ---- blocks: the causes, in order: 9, 10 for right, 10 for the RDS baseband, 11
abbrev pub encode_rds_says : ℕ → ℕ → ℕ → ℕ → ℕ → Said
encode_rds_says table left right rds output =
    first_cause (table_rule table ∷ input_rule left right ∷ input_rule left rds ∷ output_rule left output ∷ [])

abbrev pub encode_rds_of : StereoEncodeRds
    → List Float → List Float → List Float → List Float → List Float → Encoded StereoEncodeRds
encode_rds_of e table left right rds output =
    let n = length left in
    let said = encode_rds_says (length table) n (length right) (length rds) (length output) in
    record {
      said = said;
      output = kept said
          (samples n (λ i. multiplex_rds_of table e.enc.main e.enc.pilot e.rds (phase_at e.enc i)
          (slice_index_or left i nan) (slice_index_or right i nan) (slice_index_or rds i nan)))
          output;
      encoder = kept said (rds_at e (phase_at e.enc n)) e;
    }
