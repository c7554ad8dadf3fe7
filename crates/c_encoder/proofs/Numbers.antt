-- A refusal's number is that of one of its causes, all below 100, so that 100 and it fit a u32. Assumes nothing.
use Prim.Native.Nat.{ℕ, ◌<◌}
use mathlib.Core.Path.{◌≡◌, refl}
use lib.Ieee.{Float}
use Rattle.answers.specs.Answer.{rule, first_cause, refused, unchanged}
use Rattle.answers.proofs.Causes.{rule_below, first_below, refused_below, unchanged_below}
use Rattle.encoder_record.specs.Encode.{good_level, causes, encoder_of, new_of, set_pilot_of}
use Rattle.encoder_record.specs.declared.encode.StereoEncode.{StereoEncode}

module _ (frequency main pilot rate : Float) where
  pub encode_below : {n : ℕ} → refused n ≡ new_of frequency main pilot rate → n < 100
  unfolding new_of
  encode_below =
      let c = causes frequency main pilot rate in
      refused_below 100 (first_cause c) (encoder_of frequency main pilot rate) (first_below 100 c (simp rule_below))

pub pilot_below : (e : StereoEncode) (x : Float) {n : ℕ} {was : StereoEncode} → unchanged n was ≡ set_pilot_of e x → n < 100
pilot_below e x = unchanged_below 100 (rule 14 (good_level x)) (record { nco = e.nco; main = e.main; pilot = x }) e (rule_below 100 14 (good_level x) refl)
