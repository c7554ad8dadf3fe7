-- The record of the encoder with RDS: construction and set calls. Sources: document 01, "`StereoEncode`", "Calls
-- turned back". Definitions only.
use Rattle.std.specs.Prelude.{ℕ, [], ◌∷◌, ◌++◌, Float}
use Rattle.answers.specs.Answer.{rule, first_cause, Built, built_by, Changed, changed_by}
use Rattle.encoder_record.specs.Encode.{good_level, causes, encoder_of, encode_at}
use Rattle.encoder_record_rds.specs.declared.rds.StereoEncodeRds.{StereoEncodeRds}

-- ---- construction: the causes of the encoder without RDS, then 16
unfoldable pub new_rds_of : Float → Float → Float → Float → Float → Built StereoEncodeRds
new_rds_of frequency main pilot rds rate =
    built_by (first_cause (causes frequency main pilot rate ++ (rule 16 (good_level rds) ∷ [])))
    (record { enc = encoder_of frequency main pilot rate; rds = rds })

-- ---- set calls: a refused one leaves the old record
abbrev pub set_rds_pilot_of : StereoEncodeRds → Float → Changed StereoEncodeRds
set_rds_pilot_of e x =
    changed_by (rule 14 (good_level x))
    (record { enc = record { nco = e.enc.nco; main = e.enc.main; pilot = x }; rds = e.rds }) e

abbrev pub set_rds_of : StereoEncodeRds → Float → Changed StereoEncodeRds
set_rds_of e x = changed_by (rule 16 (good_level x)) (record { enc = e.enc; rds = x }) e

abbrev pub rds_at : StereoEncodeRds → ℕ → StereoEncodeRds
rds_at e p = record { enc = encode_at e.enc p; rds = e.rds }
