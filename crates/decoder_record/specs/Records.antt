-- The program's f32 record as the machine's state, field by field, and the program's answers. Definitions only.
use Rattle.std.specs.Prelude.{Float, Result}
use Rattle.answers.specs.Answer.{Built, map_built, says_made}
use Rattle.answers.specs.declared.answer.Refusal.{Refusal}
use Rattle.decoder_record.specs.State.{Pll}
use Rattle.decoder_record.specs.declared.pll_f32.StereoPllF32.{StereoPllF32}

abbrev pub pll_of_f32 : StereoPllF32 → Pll Float
pll_of_f32 d = record {
  gains = record {
    kp = d.kp;
    ki = d.ki;
    imax = d.imax;
    beta = d.beta;
    on = d.on;
    off = d.off;
    step0 = d.step0;
  };
  moving = record { phase = d.phase; integ = d.integ; level = d.level; stereo = d.stereo };
  enabled = d.enabled;
}

-- a construction's answer in document 01's terms
abbrev pub says_f32 : Result StereoPllF32 Refusal → Built (Pll Float)
says_f32 r = map_built pll_of_f32 (says_made r)
