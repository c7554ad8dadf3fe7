-- The encoder's record: construction and set calls. Sources: document 01, "`StereoEncode`", "Calls turned
-- back". Definitions only.
use Rattle.std.specs.Prelude.{ℕ, Bool, false, List, [], ◌∷◌, pos, Float}
use Rattle.std.specs.Float.{fin, binary32, binary64}
use Rattle.std.specs.Float.Ieee.{div, le}
use Rattle.answers.specs.Answer.{Said, rule, first_cause, Built, built_by, Changed, changed_by}
use Rattle.oscillator.specs.Oscillator.{increment_of, fresh, phase_set}
use Rattle.floats.specs.Floats.{nearest, positive, in_range}
use Rattle.encoder_record.specs.declared.encode.StereoEncode.{StereoEncode}

-- ---- construction: the causes 1, 12, 13, 14, 15 in order, then 16
abbrev zero : Float
zero = fin false 0 (pos 0)

abbrev one : Float
one = fin false 1 (pos 0)

-- an amplitude of the pilot, or a level of RDS, is allowed from 0 to the f32 nearest 0.2
abbrev pub good_level : Float → Bool
good_level x = in_range zero (nearest binary32 2 10) x

abbrev pub causes : Float → Float → Float → Float → List Said
causes frequency main pilot rate =
    rule 1 (positive rate)
    ∷ rule 12 (in_range (nearest binary64 18000 1) (nearest binary64 20000 1) frequency)
    ∷ rule 13 (in_range zero one main)
    ∷ rule 14 (good_level pilot)
    ∷ rule 15 (le (nearest binary64 120000 1) rate)
    ∷ []

abbrev pub encoder_of : Float → Float → Float → Float → StereoEncode
encoder_of frequency main pilot rate =
    record { nco = fresh (increment_of (div binary64 frequency rate)); main = main; pilot = pilot }

unfoldable pub new_of : Float → Float → Float → Float → Built StereoEncode
new_of frequency main pilot rate =
    built_by (first_cause (causes frequency main pilot rate)) (encoder_of frequency main pilot rate)

-- ---- set calls: a refused one leaves the old record
abbrev pub set_pilot_of : StereoEncode → Float → Changed StereoEncode
set_pilot_of e x = changed_by (rule 14 (good_level x)) (record { nco = e.nco; main = e.main; pilot = x }) e

abbrev pub encode_at : StereoEncode → ℕ → StereoEncode
encode_at e p = record { nco = phase_set e.nco p; main = e.main; pilot = e.pilot }
