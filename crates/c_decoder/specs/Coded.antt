-- A decoder's record in C, over the format, and what the calls give. Definitions only.
use Rattle.std.specs.Prelude.{ℕ, List, Float}
use Rattle.answers.specs.Answer.{code_of, Built, map_built}
use Rattle.answers.specs.Coded.{on_at, switch_of, Coded, coded_new}
use Rattle.answers.specs.declared.answer.Code.{Code}
use Rattle.decoder_record.specs.State.{Pll}
use Rattle.decoder.specs.Machine.{Blocked}
use Rattle.c_decoder.specs.declared.shared.Readout.{Readout}
use Rattle.pilot_scan.specs.declared.Scanned.{Scanned}
use Rattle.c_decoder.specs.declared.in_f32.DecoderF32.{DecoderF32}
use Rattle.c_decoder.specs.declared.in_f32.ScannedF32.{ScannedF32}

-- ---- the record: the fields in C's order
pub record Decoder (A : Type 0) : Type 0 where
  pub kp : A
  pub ki : A
  pub imax : A
  pub beta : A
  pub on : A
  pub off : A
  pub integ : A
  pub level : A
  pub step0 : ℕ
  pub phase : ℕ
  pub stereo : ℕ
  pub enabled : ℕ

abbrev pub decoder_of_f32 : DecoderF32 → Decoder Float
decoder_of_f32 d = record {
  kp = d.kp;
  ki = d.ki;
  imax = d.imax;
  beta = d.beta;
  on = d.on;
  off = d.off;
  integ = d.integ;
  level = d.level;
  step0 = d.step0;
  phase = d.phase;
  stereo = d.stereo;
  enabled = d.enabled;
}

-- the machine's state from C, and back
abbrev pub taken_of : {A : Type 0} → Decoder A → Pll A
taken_of d = record {
  gains = record { kp = d.kp; ki = d.ki; imax = d.imax; beta = d.beta; on = d.on; off = d.off; step0 = d.step0 };
  moving = record { phase = d.phase; integ = d.integ; level = d.level; stereo = on_at d.stereo };
  enabled = on_at d.enabled;
}

abbrev pub given_of : {A : Type 0} → Pll A → Decoder A
given_of d =
    let g = d.gains in
    let m = d.moving in
    record {
      kp = g.kp;
      ki = g.ki;
      imax = g.imax;
      beta = g.beta;
      on = g.on;
      off = g.off;
      integ = m.integ;
      level = m.level;
      step0 = g.step0;
      phase = m.phase;
      stereo = switch_of m.stereo;
      enabled = switch_of d.enabled;
    }

-- ---- construction; z is the format's 0, and a record of zeros stands for what was not made
abbrev pub no_decoder : {A : Type 0} → A → Decoder A
no_decoder z = record { kp = z; ki = z; imax = z; beta = z; on = z; off = z; integ = z; level = z; step0 = 0; phase = 0; stereo = 0; enabled = 0 }

abbrev pub coded_decoder : {A : Type 0} → A → Built (Pll A) → Coded (Decoder A)
coded_decoder z b = coded_new (no_decoder z) (map_built given_of b)

-- ---- a block: the answer's numbers, the outputs, and the next record
pub record CodedBlock (A : Type 0) : Type 0 where
  pub answer : Code
  pub sum : List A
  pub difference : List A
  pub decoder : Decoder A

abbrev pub coded_block : {A : Type 0} → Blocked A → CodedBlock A
coded_block r = record { answer = code_of r.said; sum = r.sum; difference = r.difference; decoder = given_of r.pll }

-- ---- the read-outs, from what the format's turns and levels are as f64
abbrev pub read_by : {A : Type 0} → (A → Float) → (A → Float) → Pll A → Readout
read_by turns level d = record {
  integrator = turns d.moving.integ;
  integrator_limit = turns d.gains.imax;
  lock_level = level d.moving.level;
  phase = d.moving.phase;
  stereo = switch_of d.moving.stereo;
  enabled = switch_of d.enabled;
}

abbrev pub read_f32 : Pll Float → Readout
read_f32 = read_by (λ x. x) (λ x. x)

-- ---- the scan
abbrev pub coded_scan : Scanned → ScannedF32
coded_scan s = record { finite = switch_of s.finite; read = s.read }
