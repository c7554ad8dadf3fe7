use Prim.Native.Nat.{ℕ}
use mathlib.Core.Path.{◌≡◌, sym, ap, ◌∙◌}
use mathlib.Core.Bool.{true}
use lib.Ieee.{Float}
use Rattle.std.proofs.Common.{Err, rules}
use Rattle.decoder_record_q15.specs.Records.{says_q15}
use Rattle.answers.specs.Answer.{Said, accepts, or_else, first_cause, made, refused, built_by}
use Rattle.answers.proofs.Causes.{none_yet, first_append, built_out, refused_stays}
use Rattle.decoder_gains.specs.Gains.{Gains, gains_of, causes, common_of}
use Rattle.decoder_record_q15.specs.Fresh.{causes_q15, fresh_q15, build_q15, new_q15_of}
use Rattle.decoder_record_q15.proofs.pll_q15.StereoPllQ15.new.Goals as goal

module _ (pilot natural level beta rate : Float) where
  -- the gains passed the causes of both formats: those of Q15 decide
  passed : accepts (first_cause (causes pilot natural level beta rate)) ≡ true → build_q15 (gains_of pilot natural level beta rate) ≡ new_q15_of pilot natural level beta rate
  unfolding build_q15 new_q15_of
  passed h =
      let g = gains_of pilot natural level beta rate in
      let own = first_cause (causes_q15 g) in
      ap (λ (s : Said). built_by s (fresh_q15 g)) (sym (first_append (causes pilot natural level beta rate) (causes_q15 g) ∙ ap (λ (s : Said). or_else s own) (none_yet (first_cause (causes pilot natural level beta rate)) h)))

  after-made : {g : Gains Float} → made g ≡ common_of pilot natural level beta rate → build_q15 g ≡ new_q15_of pilot natural level beta rate
  unfolding common_of
  after-made h =
      let o = built_out (first_cause (causes pilot natural level beta rate)) (gains_of pilot natural level beta rate) (sym h) in
      ap build_q15 (sym o.1) ∙ passed o.0

  after-refused : {n : ℕ} → refused n ≡ common_of pilot natural level beta rate → refused n ≡ new_q15_of pilot natural level beta rate
  unfolding common_of new_q15_of
  after-refused h =
      rw (first_append (causes pilot natural level beta rate) (causes_q15 (gains_of pilot natural level beta rate)))
      (sym (refused_stays (first_cause (causes pilot natural level beta rate)) _ (gains_of pilot natural level beta rate) _ (sym h)))

pub returns-in_err-gains : goal.returns-in_err-gains
returns-in_err-gains c =
    let e : c.from_residual.result ≡ Err c.in_err-gains.field-0.0 = search rules in
    ap says_q15 e ∙ after-refused _ _ _ _ _ c.in_err-gains.ensures

pub returns : goal.returns
returns c = c.build.ensures ∙ after-made _ _ _ _ _ c.in_ok-gains.ensures
