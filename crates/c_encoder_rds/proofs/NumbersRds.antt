-- A refusal's number is that of one of its causes, all below 100, so that 100 and it fit a u32. Assumes nothing.
use Prim.Native.Nat.{ℕ, ◌<◌}
use mathlib.Core.Path.{◌≡◌, refl}
use mathlib.Core.List.{[], ◌∷◌, ◌++◌}
use lib.Ieee.{Float}
use Rattle.answers.specs.Answer.{rule, first_cause, refused, unchanged}
use Rattle.answers.proofs.Causes.{rule_below, first_below, refused_below, unchanged_below}
use Rattle.encoder_record.specs.Encode.{good_level, causes, encoder_of}
use Rattle.encoder_record_rds.specs.EncodeRds.{new_rds_of, set_rds_pilot_of, set_rds_of}
use Rattle.encoder_record_rds.specs.declared.rds.StereoEncodeRds.{StereoEncodeRds}

module _ (frequency main pilot rate : Float) where
  pub rds_below : (rds : Float) {n : ℕ} → refused n ≡ new_rds_of frequency main pilot rds rate → n < 100
  unfolding new_rds_of
  rds_below rds =
      let c = causes frequency main pilot rate ++ (rule 16 (good_level rds) ∷ []) in
      refused_below 100 (first_cause c) (record { enc = encoder_of frequency main pilot rate; rds = rds }) (first_below 100 c (simp rule_below))

pub rds_pilot_below : (e : StereoEncodeRds) (x : Float) {n : ℕ} {was : StereoEncodeRds} → unchanged n was ≡ set_rds_pilot_of e x → n < 100
rds_pilot_below e x = unchanged_below 100 (rule 14 (good_level x)) (record { enc = record { nco = e.enc.nco; main = e.enc.main; pilot = x }; rds = e.rds }) e (rule_below 100 14 (good_level x) refl)

pub level_below : (e : StereoEncodeRds) (x : Float) {n : ℕ} {was : StereoEncodeRds} → unchanged n was ≡ set_rds_of e x → n < 100
level_below e x = unchanged_below 100 (rule 16 (good_level x)) (record { enc = e.enc; rds = x }) e (rule_below 100 16 (good_level x) refl)
