-- The phase correction. Source: document 01, "Phase correction", and document 02, request 7, for which way serves;
-- fallback/modulate.rs for the quick way's range. Definitions only.
use Rattle.std.specs.Prelude.{ℕ, ◌^◌, Bool, false, cond, not, pos, negsuc, Float, Option, Some, None}
use Rattle.std.specs.Float.{fin, binary64}
use Rattle.std.specs.Float.Ieee.{add, mul, lt}
use Rattle.floats.specs.Floats.{abs_of}
use Rattle.numbers.specs.Integers.{mod_z}
use Rattle.scale.specs.Scaled.{scaled_of}
use Rattle.phase.specs.declared.correction.Corrected.{Corrected}

-- v = f times 2^32 plus 0.5, rounded; its floor as an i64 that stops at its ends, a NaN giving 0; modulo 2^32
unfoldable pub correction_of : Float → ℕ
correction_of f = mod_z (scaled_of f (fin false 1 (pos 32))) (2 ^ 32)

-- v itself
abbrev pub v_of : Float → Float
v_of f = add binary64 (mul binary64 f (fin false 1 (pos 32))) (fin false 1 (negsuc 0))

-- the quick way serves for a v whose size is below 2^51; a NaN is not below
abbrev pub quick_serves : Float → Bool
quick_serves v = lt (abs_of v) (fin false 1 (pos 51))

-- a correction takes the wide way where the quick one does not serve
abbrev pub is_wide : Float → Bool
is_wide f = not (quick_serves (v_of f))

-- what the quick way gives: the correction where it serves
unfoldable pub quick_of : Float → Option ℕ
quick_of f = cond (quick_serves (v_of f)) (Some (correction_of f)) None

-- the fast way: the correction, and whether the quick way served
abbrev pub corrected_of : Float → Corrected
corrected_of f = record { step = correction_of f; quick = quick_serves (v_of f) }
