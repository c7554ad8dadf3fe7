-- What the parts of a sample's steps follow. Source: document 01, "The plain machine, one sample", steps 2 to
-- 7, and "The fast blocks" for the scan. Definitions only.
use Rattle.std.specs.Prelude.{ℕ, ◌+◌, ◌%◌, ◌^◌, Bool, true, false, cond, ◌&&◌, List, [], ◌∷◌, ℤ, pos, int_le, int_lt, Float}
use Rattle.std.specs.Float.{fin, binary32}
use Rattle.std.specs.Float.Ieee.{add, sub, mul, le, lt, neg}
use Rattle.std.specs.Float.Ieee.Scale.{finite}
use Rattle.numbers.specs.Flush.{flush_of}

-- 4: at or above on: stereo; else below off: mono; else kept
abbrev pub decide_by : {A : Type 0} → (A → A → Bool) → (A → A → Bool) → A → A → A → Bool → Bool
decide_by reaches under level on off was = cond (reaches level on) true (cond (under level off) false was)

-- 6: above imax it becomes imax, after that below -imax it becomes -imax
abbrev pub limited_by : {A : Type 0} → (A → A → Bool) → (A → A) → A → A → A
limited_by under minus imax x = let y = cond (under imax x) imax x in cond (under y (minus imax)) (minus imax) y

-- x is at or above y
abbrev pub reaches_f32 : Float → Float → Bool
reaches_f32 x y = le y x

abbrev pub reaches_q15 : ℤ → ℤ → Bool
reaches_q15 x y = int_le y x

abbrev pub decide_f32 : Float → Float → Float → Bool → Bool
decide_f32 = decide_by reaches_f32 lt

abbrev pub decide_q15 : ℤ → ℤ → ℤ → Bool → Bool
decide_q15 = decide_by reaches_q15 int_lt

abbrev pub limited_f32 : Float → Float → Float
limited_f32 = limited_by lt neg

-- 3 and 6 in f32: each operation rounded once
unfoldable pub level_f32 : Float → Float → Float → Float
level_f32 beta level q = flush_of (add binary32 level (mul binary32 beta (sub binary32 q level)))

unfoldable pub accumulate_f32 : Float → Float → Float → Float
accumulate_f32 integ ki e = flush_of (add binary32 integ (mul binary32 ki e))

-- 2, 3 and 4 in f32 where a pilot sample may not be finite: the error is then +0, and the level and the
-- decision stay
abbrev pub error_f32 : Float → Float → Float
error_f32 p c = cond (finite p) (mul binary32 p c) (fin false 0 (pos 0))

abbrev pub level_after_f32 : Float → Float → Float → Float → Float
level_after_f32 p s beta level = cond (finite p) (level_f32 beta level (mul binary32 p s)) level

abbrev pub stereo_after_f32 : Float → Float → Float → Float → Bool → Bool
stereo_after_f32 p level on off was = cond (finite p) (decide_f32 level on off was) was

-- 5: the demodulated sample, or 0
abbrev pub demodulated_f32 : Bool → Float → Float → Float
demodulated_f32 on x s2 = cond on (mul binary32 x s2) (fin false 0 (pos 0))

abbrev pub selected_q15 : Bool → ℤ → ℤ
selected_q15 on difference = cond on difference (pos 0)

-- 7: the phase gains step0 and the correction, modulo 2^32
abbrev pub phase_after : ℕ → ℕ → ℕ → ℕ
phase_after phase step0 correction = (phase + step0 + correction) % 2 ^ 32

-- every sample of a pilot is finite
abbrev pub all_finite : List Float → Bool
all_finite [] = true
all_finite (p ∷ ps) = finite p && all_finite ps
