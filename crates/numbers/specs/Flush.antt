-- `flush_denormal`. Source: document 01, "Number helpers". Definitions only.
use Rattle.std.specs.Prelude.{◌^◌, false, cond, pos, Float}
use Rattle.std.specs.Float.{fin, binary32}
use Rattle.std.specs.Float.Ieee.{lt}
use Rattle.floats.specs.Floats.{abs_of, nearest}

-- the f32 nearest to 1e-30
abbrev pub tiny : Float
tiny = nearest binary32 1 (10 ^ 30)

-- below `tiny` in magnitude it becomes plus 0; a NaN is below nothing, and stays
unfoldable pub flush_of : Float → Float
flush_of x = cond (lt (abs_of x) tiny) (fin false 0 (pos 0)) x
