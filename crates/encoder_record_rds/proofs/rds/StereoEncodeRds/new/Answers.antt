-- The causes of the stereo part, then 16: `stereo` is what the stereo part's construction tells. Assumes nothing.
use Prim.Native.Nat.{ℕ}
use mathlib.Core.Path.{◌≡◌, sym, ap, ◌∙◌}
use Rattle.std.proofs.Common.{Err, rules}
use mathlib.Core.Bool.{Bool}
use mathlib.Core.List.{[], ◌∷◌}
use lib.Ieee.{Float}
use Rattle.answers.specs.Answer.{rule, first_cause, made, refused, built_by, says_made}
use Rattle.answers.proofs.Causes.{none_yet, or_none, first_append, built_out, refused_stays}
use Rattle.answers.proofs.Tests.{failed_plain, passed_plain}
use Rattle.encoder_record.specs.Encode.{good_level, causes, encoder_of, new_of}
use Rattle.encoder_record_rds.specs.EncodeRds.{new_rds_of}
use Rattle.encoder_record.specs.declared.encode.StereoEncode.{StereoEncode}
use Rattle.encoder_record_rds.specs.declared.rds.StereoEncodeRds.{StereoEncodeRds}
use Rattle.encoder_record_rds.proofs.rds.StereoEncodeRds.new.Goals as goal

module _ (frequency main pilot rds rate : Float) where
  abbrev with : StereoEncode → StereoEncodeRds
  with e = record { enc = e; rds = rds }

  -- the stereo part was made, and the test of the level came out as b
  after-made : {e : StereoEncode} {b : Bool} → made e ≡ new_of frequency main pilot rate → good_level rds ≡ b
      → built_by (rule 16 b) (with e) ≡ new_rds_of frequency main pilot rds rate
  unfolding new_of new_rds_of
  after-made {e} {b} h g =
      let o = built_out (first_cause (causes frequency main pilot rate)) (encoder_of frequency main pilot rate) (sym h) in
      rw (first_append (causes frequency main pilot rate) (rule 16 (good_level rds) ∷ []), none_yet (first_cause (causes frequency main pilot rate)) o.0, o.1, g, ← or_none (rule 16 b))

  after-refused : {n : ℕ} → refused n ≡ new_of frequency main pilot rate → refused n ≡ new_rds_of frequency main pilot rds rate
  unfolding new_of new_rds_of
  after-refused h =
      rw (first_append (causes frequency main pilot rate) (rule 16 (good_level rds) ∷ []))
      (sym (refused_stays (first_cause (causes frequency main pilot rate)) _ (encoder_of frequency main pilot rate) _ (sym h)))

pub returns-in_err-enc : goal.returns-in_err-enc
returns-in_err-enc c =
    let e : c.from_residual.result ≡ Err c.in_err-enc.field-0.0 = search rules in
    ap says_made e ∙ after-refused _ _ _ _ _ c.in_err-enc.ensures

pub returns-then-not-good_level : goal.returns-then-not-good_level
returns-then-not-good_level c = after-made _ _ _ _ _ c.in_ok-enc.ensures (failed_plain c.good_level.ensures c.if-not-good_level.true)

pub returns : goal.returns
returns c = after-made _ _ _ _ _ c.in_ok-enc.ensures (passed_plain c.good_level.ensures c.if-not-good_level.false)
