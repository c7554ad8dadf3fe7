-- The Q15 decoder's record in C, and its read-outs. Definitions only.
use Rattle.std.specs.Prelude.{ℤ}
use Rattle.decoder_record.specs.State.{Pll}
use Rattle.decoder_record_q15.specs.Fresh.{fraction}
use Rattle.c_decoder.specs.declared.shared.Readout.{Readout}
use Rattle.c_decoder_q15.specs.declared.in_q15.DecoderQ15.{DecoderQ15}
use Rattle.c_decoder.specs.Coded.{Decoder, read_by}

abbrev pub decoder_of_q15 : DecoderQ15 → Decoder ℤ
decoder_of_q15 d = record {
  kp = d.kp;
  ki = d.ki;
  imax = d.imax;
  beta = d.beta;
  on = d.on;
  off = d.off;
  integ = d.integ;
  level = d.level;
  step0 = d.step0;
  phase = d.phase;
  stereo = d.stereo;
  enabled = d.enabled;
}

abbrev pub read_q15 : Pll ℤ → Readout
read_q15 = read_by (fraction 64) (fraction 61)
