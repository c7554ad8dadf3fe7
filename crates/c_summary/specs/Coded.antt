-- A summary's record in C, over the format, and what the calls give. Definitions only.
use Rattle.std.specs.Prelude.{ℕ, List, Float}
use Rattle.answers.specs.Answer.{code_of}
use Rattle.answers.specs.Coded.{on_at, switch_of}
use Rattle.answers.specs.declared.answer.Code.{Code}
use Rattle.summary_record.specs.Record.{Summary}
use Rattle.summary_call.specs.Summary.{Columns, Summarized}
use Rattle.c_decoder.specs.Coded.{Decoder, given_of}
use Rattle.c_summary.specs.declared.in_f32.SummaryRecordF32.{SummaryRecordF32}

-- ---- the record: the fields in C's order
pub record SummaryRecord (A : Type 0) : Type 0 where
  pub period : ℕ
  pub stereo : ℕ
  pub mono : ℕ
  pub changes : ℕ
  pub magnitude : A
  pub before : ℕ

abbrev pub record_f32 : SummaryRecordF32 → SummaryRecord Float
record_f32 s = record {
  period = s.period;
  stereo = s.stereo;
  mono = s.mono;
  changes = s.changes;
  magnitude = s.magnitude;
  before = s.before;
}

-- the summary from C, and back
abbrev pub taken_summary : {A : Type 0} → SummaryRecord A → Summary A
taken_summary s = record {
  counts = record {
    period = s.period;
    stereo = s.stereo;
    mono = s.mono;
    changes = s.changes;
    before = on_at s.before;
  };
  magnitude = s.magnitude;
}

abbrev pub given_summary : {A : Type 0} → Summary A → SummaryRecord A
given_summary s =
    let c = s.counts in
    record {
      period = c.period;
      stereo = c.stereo;
      mono = c.mono;
      changes = c.changes;
      magnitude = s.magnitude;
      before = switch_of c.before;
    }

-- ---- a block: the answer's numbers, the outputs, and the next records
pub record CodedSummary (A : Type 0) : Type 0 where
  pub answer : Code
  pub sum : List A
  pub difference : List A
  pub columns : Columns A
  pub decoder : Decoder A
  pub summary : SummaryRecord A

abbrev pub coded_summary : {A : Type 0} → Summarized A → CodedSummary A
coded_summary r = record {
  answer = code_of r.said;
  sum = r.sum;
  difference = r.difference;
  columns = r.columns;
  decoder = given_of r.pll;
  summary = given_summary r.summary;
}
