use mathlib.Core.Path.{sym, ap, ◌∙◌}
use Rattle.answers.specs.Answer.{rule}
use Rattle.answers.proofs.Causes.{map_either, map_either_lem, map_says_changed}
use Rattle.encoder_record.specs.Encode.{good_level}
use Rattle.encoder_record.specs.declared.encode.StereoEncode.{StereoEncode}
use Rattle.encoder_record_rds.specs.declared.rds.StereoEncodeRds.{StereoEncodeRds}
use Rattle.encoder_record_rds.proofs.rds.StereoEncodeRds.set_pilot.Goals as goal

abbrev with : StereoEncodeRds → StereoEncode → StereoEncodeRds
with e enc = record { enc = enc; rds = e.rds }

-- the set call from that on the stereo part
pub returns : goal.returns
returns c =
    let e = c.args.self.now in
    sym (map_says_changed (with e) c.set_pilot.result c.set_pilot.new.self)
    ∙ ap (map_either (with e)) c.set_pilot.ensures
    ∙ map_either_lem (with e) (rule 14 (good_level c.args.pilot)) _ e.enc
