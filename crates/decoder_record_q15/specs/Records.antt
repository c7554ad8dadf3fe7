-- The program's Q15 record as the machine's state, field by field, and the program's answers. Definitions only.
use Rattle.std.specs.Prelude.{ℤ, Result}
use Rattle.answers.specs.Answer.{Built, map_built, says_made}
use Rattle.answers.specs.declared.answer.Refusal.{Refusal}
use Rattle.decoder_record.specs.State.{Pll}
use Rattle.decoder_record_q15.specs.declared.pll_q15.StereoPllQ15.{StereoPllQ15}

abbrev pub pll_of_q15 : StereoPllQ15 → Pll ℤ
pll_of_q15 d = record {
  gains = record {
    kp = d.kp;
    ki = d.ki;
    imax = d.imax;
    beta = d.beta;
    on = d.on;
    off = d.off;
    step0 = d.step0;
  };
  moving = record { phase = d.phase; integ = d.integ; level = d.level; stereo = d.stereo };
  enabled = d.enabled;
}

-- a construction's answer in document 01's terms
abbrev pub says_q15 : Result StereoPllQ15 Refusal → Built (Pll ℤ)
says_q15 r = map_built pll_of_q15 (says_made r)
