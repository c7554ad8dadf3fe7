-- A float made a fixed-point number: floor(x times a scale + 0.5). Source: document 01, "Number helpers" and
-- `q15_from_f64`, `q14_from_f64` "as there". Definitions only.
use Rattle.std.specs.Prelude.{false, not, ◌||◌, ℤ, pos, negsuc, Float}
use Rattle.std.specs.Int.Signed.{lt_z}
use Rattle.std.specs.Float.{fin, binary64}
use Rattle.std.specs.Float.Ieee.{add, mul, to_signed, is_nan}
use Rattle.numbers.specs.Integers.{sat16_of}
use Rattle.floats.specs.Floats.{floor_of}
use Rattle.answers.specs.Answer.{Built, built_by, rule}

-- x times the scale, plus 0.5, each rounded once; then the floor, as an i64 that stops at its ends, a NaN giving 0
unfoldable pub scaled_of : Float → Float → ℤ
scaled_of x scale = to_signed 63 (floor_of (add binary64 (mul binary64 x scale) (fin false 1 (negsuc 0))))

-- 2^15 times x, limited; a NaN gives 0
abbrev pub q15_from_of : Float → ℤ
q15_from_of x = sat16_of (scaled_of x (fin false 1 (pos 15)))

-- 2^14 times x, where it is within -32768..32767; a NaN and all else is refused under 18
unfoldable pub q14_from_of : Float → Built ℤ
q14_from_of x =
    let v = scaled_of x (fin false 1 (pos 14)) in
    built_by (rule 18 (not (is_nan x || (lt_z v (negsuc 32767) || lt_z (pos 32767) v)))) v
