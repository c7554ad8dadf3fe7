-- The two formats of the machine over whole calls. Definitions only.
use Rattle.std.specs.Prelude.{ℤ, Float}
use Rattle.matrix.specs.Matrix.{filled_f32, filled_q15}
use Rattle.decoder.specs.F32.{f32}
use Rattle.decoder_q15.specs.Q15.{q15}
use Rattle.summary_record.specs.F32.{unsigned_f32}
use Rattle.summary_record.specs.Q15.{unsigned_q15}
use Rattle.calls.specs.Calls.{Core}

abbrev pub core_f32 : Core Float
core_f32 = record { arithmetic = f32; matrix = filled_f32; unsigned = unsigned_f32 }

abbrev pub core_q15 : Core ℤ
core_q15 = record { arithmetic = q15; matrix = filled_q15; unsigned = unsigned_q15 }
