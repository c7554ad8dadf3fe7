use mathlib.Core.Path.{◌≡◌, refl}
use mathlib.Core.Bool.{Bool, false}
use mathlib.Core.List.{[], ◌∷◌}
use lib.IntN.{pos}
use lib.Ieee.{Float, fin, of_bits, binary64, round, le}
use Rattle.answers.specs.Answer.{rule, first_cause, built_by}
use Rattle.answers.proofs.Tests.{failed_plain, passed_plain}
use Rattle.floats.specs.Floats.{nearest, positive, in_range}
use Rattle.encoder_record.specs.Encode.{good_level, encoder_of, new_of}
use Rattle.encoder_record.proofs.encode.StereoEncode.new.Goals as goal

-- the definition by the outcomes of its tests
says : (frequency main pilot rate : Float) {a b d e f : Bool} → positive rate ≡ a
    → in_range (nearest binary64 18000 1) (nearest binary64 20000 1) frequency ≡ b → in_range (fin false 0 (pos 0)) (fin false 1 (pos 0)) main ≡ d
    → good_level pilot ≡ e → le (nearest binary64 120000 1) rate ≡ f
    → built_by (first_cause (rule 1 a ∷ rule 12 b ∷ rule 13 d ∷ rule 14 e ∷ rule 15 f ∷ [])) (encoder_of frequency main pilot rate) ≡ new_of frequency main pilot rate
unfolding new_of
says frequency main pilot rate p q r s t = rw (p, q, r, s, t)

pub returns-then-not-is_positive_f64 : goal.returns-then-not-is_positive_f64
returns-then-not-is_positive_f64 c = says _ _ _ _ (failed_plain c.is_positive_f64.ensures c.if-not-is_positive_f64.true) refl refl refl refl

pub returns-then-not-frequency : goal.returns-then-not-frequency
unfolding of_bits round
returns-then-not-frequency c = says _ _ _ _ (passed_plain c.is_positive_f64.ensures c.if-not-is_positive_f64.false) c.if-not-frequency.true refl refl refl

pub returns-then-not-main : goal.returns-then-not-main
unfolding of_bits round
returns-then-not-main c = says _ _ _ _ (passed_plain c.is_positive_f64.ensures c.if-not-is_positive_f64.false) c.if-not-frequency.false c.if-not-main.true refl refl

pub returns-then-not-good_level : goal.returns-then-not-good_level
unfolding of_bits round
returns-then-not-good_level c =
    says _ _ _ _ (passed_plain c.is_positive_f64.ensures c.if-not-is_positive_f64.false) c.if-not-frequency.false c.if-not-main.false (failed_plain c.good_level.ensures c.if-not-good_level.true) refl

pub returns-then-not-rate : goal.returns-then-not-rate
unfolding of_bits round
returns-then-not-rate c =
    says _ _ _ _ (passed_plain c.is_positive_f64.ensures c.if-not-is_positive_f64.false) c.if-not-frequency.false c.if-not-main.false (passed_plain c.good_level.ensures c.if-not-good_level.false) c.if-not-rate.true

pub returns : goal.returns
unfolding of_bits round
returns c =
    rw c.increment_of-inc.ensures (says _ _ _ _ (passed_plain c.is_positive_f64.ensures c.if-not-is_positive_f64.false) c.if-not-frequency.false c.if-not-main.false (passed_plain c.good_level.ensures c.if-not-good_level.false) c.if-not-rate.false)
