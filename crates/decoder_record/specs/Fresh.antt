-- Construction of the f32 decoder, and the gains at a format. Sources: document 01, "Calls turned back", "The
-- decoder record". Definitions only.
use Rattle.std.specs.Prelude.{Float}
use Rattle.std.specs.Float.{binary32}
use Rattle.answers.specs.Answer.{first_cause, Built, built_by}
use Rattle.floats.specs.Floats.{to_format}
use Rattle.decoder_gains.specs.Gains.{Gains, nought, gains_of, causes}
use Rattle.decoder_record.specs.State.{Pll, fresh_of}

-- the gains at a format, by what becomes of each
abbrev pub gains_by : {A : Type 0}
    → (Float → A) → (Float → A) → (Float → A) → (Float → A) → (Float → A) → (Float → A)
    → Gains Float → Gains A
gains_by kp ki imax beta on off g = record {
  kp = kp g.kp;
  ki = ki g.ki;
  imax = imax g.imax;
  beta = beta g.beta;
  on = on g.on;
  off = off g.off;
  step0 = g.step0;
}

-- f32: the gains at f32
abbrev pub fresh_f32 : Gains Float → Pll Float
fresh_f32 g = let at = to_format binary32 in fresh_of nought (gains_by at at at at at at g)

unfoldable pub new_f32_of : Float → Float → Float → Float → Float → Built (Pll Float)
new_f32_of pilot natural level beta rate =
    built_by (first_cause (causes pilot natural level beta rate)) (fresh_f32 (gains_of pilot natural level beta rate))
