-- Three and four tenths of a decoder's level: off is at most on in f64, where both formats take them from.
-- Assumes nothing.
use mathlib.Core.Path.{◌≡◌, refl}
use Prim.Native.Nat.{ℕ, ◌*◌, ◌^◌, ◌≤◌}
use native.Mathlib.Nat.{mul-le-mul}
use native.Mathlib.Omega.{arith}
use mathlib.Core.Bool.{true, false, ◌&&◌, false≢true}
use lib.Dec.{lit≤}
use lib.Ieee.{Float, nan, inf, fin, binary64, round, mul, div, lt, le, is_nan}
use Rattle.rounding.proofs.Order.{le_self}
use Rattle.answers.specs.Answer.{accepts, first_cause}
use Rattle.answers.proofs.Causes.{each, rule_passed}
use Rattle.answers.proofs.Tests.{and_out}
use Rattle.floats.specs.Floats.{nearest, positive}
use Rattle.decoder_gains.specs.Gains.{power, one, gains_of, causes}
use Rattle.thresholds.proofs.Rising.{Ordered, Rounds, rises}

-- a level that was tested to be above 0 is in order with itself
itself : (x : Float) → positive x ≡ true → Ordered x x
unfolding lt is_nan
itself nan h = absurd (false≢true h)
itself (inf s) h = absurd (false≢true h)
itself (fin true m e) h = absurd (false≢true h)
itself (fin false m e) h = (tt, tt, le_self (fin false m e) tt)

-- the steps of the formulas: half the level, and of that 0.3 and 0.4 as binary64 has them
halved : Rounds binary64 (λ x. div binary64 x (power 1)) (λ a c. a * 1) (λ c. 1 * 2 * c)
unfolding div
halved = record { infinite = refl; made = λ m e. refl; above = λ c h. omega arith }

three_tenths : Rounds binary64 (mul binary64 (nearest binary64 3 10)) (λ a c. 5404319552844595 * 1 * a) (λ c. 2 ^ 54 * c)
unfolding mul round
three_tenths = record { infinite = refl; made = λ m e. refl; above = λ c h. omega arith }

four_tenths : Rounds binary64 (mul binary64 (nearest binary64 4 10)) (λ a c. 3602879701896397 * 1 * a) (λ c. 2 ^ 53 * c)
unfolding mul round
four_tenths = record { infinite = refl; made = λ m e. refl; above = λ c h. omega arith }

-- p / q of a / c is at most r / s of b / d
shares : (p q r s a c b d : ℕ) → p * s ≤ r * q → a * d ≤ b * c → p * 1 * a * (s * d) ≤ r * 1 * b * (q * c)
shares p q r s a c b d h k = omega (arith, mul-le-mul h k)

pub off_on : (pilot natural level beta rate : Float) → accepts (first_cause (causes pilot natural level beta rate)) ≡ true
    → let g = gains_of pilot natural level beta rate in Ordered g.off g.on
unfolding gains_of
off_on pilot natural level beta rate h =
    let c = each (causes pilot natural level beta rate) h in
    let l = (and_out (positive level) (le level one) (rule_passed 4 (positive level && le level one) c.1.1.1.0)).0 in
    let kd = div binary64 level (power 1) in
    rises three_tenths four_tenths (λ a c b d C D. shares 5404319552844595 (2 ^ 54) 3602879701896397 (2 ^ 53) a c b d (lit≤ tt)) kd kd
    (rises halved halved (λ a c b d C D k. omega arith) level level (itself level l))
