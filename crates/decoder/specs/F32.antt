-- The arithmetic of f32. Source: document 01, "The plain machine, one sample", what each step says for f32.
-- Definitions only.
use Rattle.std.specs.Prelude.{true, false, pos, Float}
use Rattle.std.specs.Float.{fin, binary32}
use Rattle.std.specs.Float.Ieee.{add, mul, lt, neg}
use Rattle.std.specs.Float.Ieee.Scale.{finite}
use Rattle.lookup.specs.Lookup.{cos_f32}
use Rattle.phase.specs.Correction.{correction_of}
use Rattle.decoder_parts.specs.Rules.{reaches_f32, level_f32, accumulate_f32}
use Rattle.decoder.specs.Machine.{Arithmetic}

-- f32: every record is taken
abbrev pub f32 : Arithmetic Float
f32 = record {
  lookup = cos_f32;
  usable = finite;
  times = mul binary32;
  nought = fin false 0 (pos 0);
  level_next = level_f32;
  reaches = reaches_f32;
  under = lt;
  demodulate = mul binary32;
  accumulate = accumulate_f32;
  minus = neg;
  frequency = λ kp e integ. add binary32 (mul binary32 kp e) integ;
  correction = correction_of;
  fit = λ d. true;
}
