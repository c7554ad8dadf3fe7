use Rattle.std.proofs.Common.{◌≡◌, Bool, [], ◌∷◌, refl, ap, ◌∙◌}
use lib.Ieee.{Float, binary64, div}
use lib.Ieee.Scale.{finite}
use Rattle.answers.specs.Answer.{rule, first_cause, made, built_by}
use Rattle.answers.proofs.Tests.{failed_plain, passed_plain}
use Rattle.floats.specs.Floats.{positive}
use Rattle.oscillator.specs.Oscillator.{increment_for, increment_of}
use Rattle.oscillator.proofs.nco.increment_for.Goals as goal

-- the definition by the outcomes of its tests
says : (freq rate : Float) {a b : Bool} → positive rate ≡ a → finite (div binary64 freq rate) ≡ b
    → built_by (first_cause (rule 1 a ∷ rule 17 b ∷ [])) (increment_of (div binary64 freq rate)) ≡ increment_for freq rate
unfolding increment_for
says freq rate p q = rw (p, q)

pub returns-then-not-is_positive_f64 : goal.returns-then-not-is_positive_f64
returns-then-not-is_positive_f64 c = says c.args.freq c.args.rate (failed_plain c.is_positive_f64.ensures c.if-not-is_positive_f64.true) refl

pub returns-then-not-is_finite_f64 : goal.returns-then-not-is_finite_f64
returns-then-not-is_finite_f64 c =
    says c.args.freq c.args.rate (passed_plain c.is_positive_f64.ensures c.if-not-is_positive_f64.false) (failed_plain c.is_finite_f64.ensures c.if-not-is_finite_f64.true)

pub returns : goal.returns
returns c =
    ap made c.increment_of.ensures
    ∙ says c.args.freq c.args.rate (passed_plain c.is_positive_f64.ensures c.if-not-is_positive_f64.false) (passed_plain c.is_finite_f64.ensures c.if-not-is_finite_f64.false)
