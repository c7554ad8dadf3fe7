-- A Q15 summary's record in C. Definitions only.
use Rattle.std.specs.Prelude.{ℤ}
use Rattle.c_summary_q15.specs.declared.in_q15.SummaryRecordQ15.{SummaryRecordQ15}
use Rattle.c_summary.specs.Coded.{SummaryRecord}

abbrev pub record_q15 : SummaryRecordQ15 → SummaryRecord ℤ
record_q15 s = record {
  period = s.period;
  stereo = s.stereo;
  mono = s.mono;
  changes = s.changes;
  magnitude = s.magnitude;
  before = s.before;
}
