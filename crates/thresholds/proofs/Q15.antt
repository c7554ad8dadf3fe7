-- The thresholds of a Q15 decoder: on is not below off, and a level that reaches on is not below off. Assumes
-- nothing.
use mathlib.Core.Path.{◌≡◌, refl}
use Prim.Native.Nat.{ℕ, ◌+◌, ◌-◌, ◌*◌, ◌/◌, ◌^◌, ◌≤◌, ◌<◌, min}
use native.Mathlib.Nat.{mul-le-mul_right}
use native.Mathlib.Omega.{arith}
use mathlib.Core.Bool.{true, false}
use lib.Dec.{lit<}
use lib.IntN.{ℤ, pos, negsuc}
use lib.Signed.{le_z, lt_z}
use lib.Ieee.{Float, fin, binary64, up, down, sum, add, mul, to_signed}
use lib.Ieee.Fits.{down_pos}
use lib.Ieee.Nearest.{div_mono}
use Rattle.rounding.specs.Cut.{downward, cut_by}
use Rattle.rounding.proofs.Cut.{cut_downward, greatest_div}
use Rattle.rounding.proofs.Lin.{le_yes, le_yes_in, lt_no_in}
use Rattle.answers.specs.Answer.{accepts, first_cause}
use Rattle.floats.specs.Floats.{whole_of, floor_of}
use Rattle.scale.specs.Scaled.{scaled_of}
use Rattle.decoder_gains.specs.Gains.{power, gains_of, causes}
use Rattle.thresholds.proofs.Rising.{Ordered, by_sort, Rounds, rises}
use Rattle.thresholds.proofs.Tenths.{off_on}

-- ---- the steps of `scaled_of`: times 2^k, plus a half, the floor, as an i64
scaled : (k : ℕ) → Rounds binary64 (λ x. mul binary64 x (power k)) (λ a c. a * (1 * 2 ^ k)) (λ c. c * 1)
unfolding mul
scaled k = record { infinite = refl; made = λ m e. refl; above = λ c h. omega arith }

raised : Rounds binary64 (λ x. add binary64 x (fin false 1 (negsuc 0))) (λ a c. a * 2 + 1 * c) (λ c. c * 2)
unfolding add sum
raised = record { infinite = refl; made = λ m e. refl; above = λ c h. omega arith }

floored : Rounds binary64 floor_of (cut_by downward false) (λ c. 1)
unfolding whole_of
floored = record { infinite = refl; made = λ m e. refl; above = λ c h. lit< tt }

floor_rises : (a c b d : ℕ) → 0 < c → 0 < d → a * d ≤ b * c → cut_by downward false a c * 1 ≤ cut_by downward false b d * 1
floor_rises a c b d C D h =
    omega (arith, div_mono a c b d C D h, greatest_div a c _ (cut_downward false a c C), greatest_div b d _ (cut_downward false b d D))

signed_rises : (h : ℕ) (x y : Float) → Ordered x y → le_z (to_signed h x) (to_signed h y) ≡ true
unfolding to_signed
signed_rises h =
    by_sort (λ x y. le_z (to_signed h x) (to_signed h y) ≡ true)
    (le_yes_in (pos (2 ^ h - 1)) (pos (2 ^ h - 1)) (omega arith))
    (λ m e. le_yes_in (pos (min (m * up e / down e) (2 ^ h - 1))) (pos (2 ^ h - 1)) (omega arith))
    (λ m e n d k. le_yes_in (pos (min (m * up e / down e) (2 ^ h - 1))) (pos (min (n * up d / down d) (2 ^ h - 1)))
    (omega (arith, div_mono (m * up e) (down e) (n * up d) (down d) (down_pos e) (down_pos d) k)))

pub scaled_rises : (k : ℕ) (x y : Float) → Ordered x y → le_z (scaled_of x (power k)) (scaled_of y (power k)) ≡ true
unfolding scaled_of
scaled_rises k x y o =
    signed_rises 63 _ _
    (rises floored floored floor_rises _ _
    (rises raised raised (λ a c b d C D h. omega arith) _ _
    (rises (scaled k) (scaled k) (λ a c b d C D h. omega (arith, mul-le-mul_right (2 ^ k) h)) x y o)))

pub off_le_on_q15 : (pilot natural level beta rate : Float) → accepts (first_cause (causes pilot natural level beta rate)) ≡ true
    → let g = gains_of pilot natural level beta rate in le_z (scaled_of g.off (power 61)) (scaled_of g.on (power 61)) ≡ true
off_le_on_q15 pilot natural level beta rate h =
    let g = gains_of pilot natural level beta rate in
    scaled_rises 61 g.off g.on (off_on pilot natural level beta rate h)

pub above_q15 : (on off v : ℤ) → le_z off on ≡ true → le_z on v ≡ true → lt_z v off ≡ false
above_q15 on off v a b = lt_no_in v off (omega (arith, le_yes off on a, le_yes on v b))
