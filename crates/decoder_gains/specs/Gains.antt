-- Construction of a decoder, what both formats share: the gains in f64 and the causes 1 to 6. Sources:
-- document 01, "Calls turned back", "The decoder record"; kernels/stereo.rs (`StereoPllState::new`) for
-- formulas and the order of operations, "as there". Definitions only.
use Rattle.std.specs.Prelude.{ℕ, ◌^◌, Bool, false, not, ◌&&◌, List, [], ◌∷◌, pos, Float, Result}
use Rattle.std.specs.Float.{fin, binary32, binary64}
use Rattle.std.specs.Float.Ieee.{of_bits, mul, div, lt, le, eq}
use Rattle.std.specs.Float.Ieee.Scale.{finite}
use Rattle.answers.specs.declared.answer.Refusal.{Refusal}
use Rattle.answers.specs.Answer.{Said, rule, first_cause, Built, map_built, built_by, says_made}
use Rattle.numbers.specs.Integers.{mod_z}
use Rattle.floats.specs.Floats.{nearest, to_format, positive, in_range}
use Rattle.scale.specs.Scaled.{scaled_of}
use Rattle.decoder_gains.specs.declared.LoopGains.{LoopGains}

-- what construction fixes, over the format: the gains, the integrator's limit, the lock coefficient, the two
-- thresholds, and the phase's step a sample
pub record Gains (A : Type 0) : Type 0 where
  pub kp : A
  pub ki : A
  pub imax : A
  pub beta : A
  pub on : A
  pub off : A
  pub step0 : ℕ

-- ---- the numbers of the formulas: 2^k, 0, 1, and pi and the root of 2 by document 01's bits
abbrev pub power : ℕ → Float
power k = fin false 1 (pos k)

abbrev pub nought : Float
nought = fin false 0 (pos 0)

abbrev pub one : Float
one = power 0

abbrev pub pi : Float
pi = of_bits binary64 0x400921FB54442D18

abbrev pub root2 : Float
root2 = of_bits binary64 0x3FF6A09E667F3BCD

-- the integrator stays within 50 Hz of the pilot's nominal frequency
abbrev pub imax_hz : Float
imax_hz = nearest binary64 50 1

-- each operation is rounded once
unfoldable pub gains_of : Float → Float → Float → Float → Float → Gains Float
gains_of pilot natural level beta rate =
    let two = power 1 in
    let two_pi = mul binary64 two pi in
    let kd = div binary64 level two in
    let zeta = div binary64 one root2 in
    let wn = div binary64 (mul binary64 two_pi natural) rate in
    record {
      kp = div binary64 (mul binary64 (mul binary64 two zeta) wn) (mul binary64 kd two_pi);
      ki = div binary64 (mul binary64 wn wn) (mul binary64 kd two_pi);
      imax = div binary64 imax_hz rate;
      beta = beta;
      on = mul binary64 (nearest binary64 4 10) kd;
      off = mul binary64 (nearest binary64 3 10) kd;
      step0 = mod_z (scaled_of (div binary64 pilot rate) (power 32)) (2 ^ 32);
    }

-- ---- the causes 1 to 6, in order
-- 6: as f32 it is finite and not 0
abbrev pub narrows : Float → Bool
narrows x = finite (to_format binary32 x) && not (eq (to_format binary32 x) nought)

abbrev pub all_narrow : Gains Float → Bool
all_narrow g =
    narrows g.kp && (narrows g.ki && (narrows g.imax
    && (narrows g.beta && (narrows g.on && narrows g.off))))

abbrev pub causes : Float → Float → Float → Float → Float → List Said
causes pilot natural level beta rate =
    rule 1 (positive rate)
    ∷ rule 2 (positive pilot && lt pilot (div binary64 rate (nearest binary64 4 1)))
    ∷ rule 3 (positive natural && le natural (div binary64 pilot (nearest binary64 100 1)))
    ∷ rule 4 (positive level && le level one)
    ∷ rule 5 (in_range nought one beta)
    ∷ rule 6 (all_narrow (gains_of pilot natural level beta rate))
    ∷ []

unfoldable pub common_of : Float → Float → Float → Float → Float → Built (Gains Float)
common_of pilot natural level beta rate =
    built_by (first_cause (causes pilot natural level beta rate)) (gains_of pilot natural level beta rate)

-- ---- the program's gains and its answer in these terms
abbrev pub gains : LoopGains → Gains Float
gains g = record {
  kp = g.kp;
  ki = g.ki;
  imax = g.imax;
  beta = g.beta;
  on = g.on;
  off = g.off;
  step0 = g.step0;
}

abbrev pub says_common : Result LoopGains Refusal → Built (Gains Float)
says_common r = map_built gains (says_made r)
