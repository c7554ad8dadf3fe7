-- A summary's record in Q15. Source: document 02, request 4. Definitions only.
use Rattle.std.specs.Prelude.{Bool, cond, ℤ, pos, negsuc}
use Rattle.std.specs.Int.Signed.{lt_z, le_z}
use Rattle.decoder_q15.specs.Q15.{q15}
use Rattle.summary_record.specs.declared.in_q15.SummaryQ15.{SummaryQ15}
use Rattle.summary_record.specs.Record.{Summary, larger_of}

-- not below 0
abbrev pub unsigned_q15 : ℤ → Bool
unsigned_q15 m = le_z (pos 0) m

-- the larger of two magnitudes as a sample: -32768, which no difference is, counts as 32767
abbrev pub larger_q15 : ℤ → ℤ → ℤ
larger_q15 m y = cond (lt_z y (negsuc 32766)) (pos 32767) (larger_of q15 m y)

abbrev pub summary_of_q15 : SummaryQ15 → Summary ℤ
summary_of_q15 s = record { counts = s.counts; magnitude = s.magnitude }
