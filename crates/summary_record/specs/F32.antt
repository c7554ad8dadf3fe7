-- A summary's record in f32. Source: document 02, request 4. Definitions only.
use Rattle.std.specs.Prelude.{Bool, false, not, Float}
use Rattle.std.specs.Float.{nan, inf, fin}
use Rattle.summary_record.specs.declared.in_f32.SummaryF32.{SummaryF32}
use Rattle.summary_record.specs.Record.{Summary}

-- no NaN, and the sign bit is not set; minus 0 has it set
abbrev pub unsigned_f32 : Float → Bool
unsigned_f32 nan = false
unsigned_f32 (inf s) = not s
unsigned_f32 (fin s m e) = not s

abbrev pub summary_of_f32 : SummaryF32 → Summary Float
summary_of_f32 s = record { counts = s.counts; magnitude = s.magnitude }
