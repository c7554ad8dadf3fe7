-- The on-air verdict. Sources: document 02, request 5; ITU-R BS.450 (a pilot of 19 000 Hz within 2 Hz, and of 8 to
-- 10 per cent of the deviation). Definitions only.
use Rattle.std.specs.Prelude.{◌+◌, ◌-◌, Bool, ◌&&◌, Float}
use Rattle.std.specs.Float.{binary32, binary64}
use Rattle.floats.specs.Floats.{nearest, in_range}

-- 19 000 Hz less 2 Hz, and 2 Hz more: the f64 of each is exact
abbrev pub lowest : Float
lowest = nearest binary64 (19000 - 2) 1

abbrev pub highest : Float
highest = nearest binary64 (19000 + 2) 1

-- the f32 nearest 0.08, and that nearest 0.1
abbrev pub eight : Float
eight = nearest binary32 8 100

abbrev pub ten : Float
ten = nearest binary32 10 100

-- by amplitude and frequency, the ends included; a NaN is in no range
unfoldable pub on_air_of : Float → Float → Bool
on_air_of frequency amplitude = in_range eight ten amplitude && in_range lowest highest frequency
