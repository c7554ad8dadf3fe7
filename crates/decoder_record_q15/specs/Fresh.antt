-- Construction of the Q15 decoder, and its read-outs. Sources: document 01, "Calls turned back" (causes 7 and
-- 8), "The decoder record". Definitions only.
use Rattle.std.specs.Prelude.{ℕ, zero, suc, Bool, true, false, not, ◌&&◌, List, [], ◌∷◌, ◌++◌, ℤ, pos, negsuc, Float}
use Rattle.std.specs.Float.{fin, binary64}
use Rattle.std.specs.Float.Ieee.{of_int, add, mul, div, lt}
use Rattle.answers.specs.Answer.{Said, rule, first_cause, Built, built_by}
use Rattle.floats.specs.Floats.{floor_of, abs_of}
use Rattle.scale.specs.Scaled.{scaled_of}
use Rattle.decoder_gains.specs.Gains.{Gains, power, gains_of, causes}
use Rattle.decoder_record.specs.State.{Pll, fresh_of}
use Rattle.decoder_record.specs.Fresh.{gains_by}
use Rattle.decoder_record_q15.specs.Fit.{fits64, guard_of}

-- floor(value times scale + 0.5), scale 2^34 for kp and ki, 2^64 for imax, 2^31 for beta, 2^61 for on and off
abbrev pub scaled_by : ℕ → Float → ℤ
scaled_by k x = scaled_of x (power k)

abbrev pub fresh_q15 : Gains Float → Pll ℤ
fresh_q15 g =
    fresh_of (pos 0)
    (gains_by (scaled_by 34) (scaled_by 34) (scaled_by 64) (scaled_by 31) (scaled_by 61) (scaled_by 61) g)

-- cause 7: a value whose floor is 2^63 or more in size, or a guard that does not fit i64
abbrev pub holds64 : Float → Float → Bool
holds64 x scale = lt (abs_of (floor_of (add binary64 (mul binary64 x scale) (fin false 1 (negsuc 0))))) (power 63)

abbrev pub all_hold : Gains Float → Bool
all_hold g =
    holds64 g.kp (power 34) && (holds64 g.ki (power 34) && (holds64 g.imax (power 64)
    && (holds64 g.beta (power 31) && (holds64 g.on (power 61) && holds64 g.off (power 61)))))

abbrev pub guarded : Gains ℤ → Bool
guarded g = fits64 (guard_of g.kp g.imax) && fits64 (guard_of g.ki g.imax)

-- cause 8: ki or beta is 0
abbrev pub is_zero : ℤ → Bool
is_zero (pos zero) = true
is_zero (pos (suc n)) = false
is_zero (negsuc n) = false

abbrev pub nonzero : Gains ℤ → Bool
nonzero g = not (is_zero g.ki) && not (is_zero g.beta)

abbrev pub causes_q15 : Gains Float → List Said
causes_q15 g = let d = fresh_q15 g in rule 7 (all_hold g && guarded d.gains) ∷ rule 8 (nonzero d.gains) ∷ []

unfoldable pub build_q15 : Gains Float → Built (Pll ℤ)
build_q15 g = built_by (first_cause (causes_q15 g)) (fresh_q15 g)

unfoldable pub new_q15_of : Float → Float → Float → Float → Float → Built (Pll ℤ)
new_q15_of pilot natural level beta rate =
    let g = gains_of pilot natural level beta rate in
    built_by (first_cause (causes pilot natural level beta rate ++ causes_q15 g)) (fresh_q15 g)

-- read-outs: a number of 2^-k as f64
abbrev pub fraction : ℕ → ℤ → Float
fraction k z = div binary64 (of_int binary64 z) (power k)
