-- The arithmetic of Q15, exact in the integers. Source: document 01, "The plain machine, one sample", what
-- each step says for Q15. Definitions only.
use Rattle.std.specs.Prelude.{◌^◌, true, cond, List, ℤ, pos, neg_ℤ, ◌+ℤ◌, ◌-ℤ◌, ◌*ℤ◌}
use Rattle.std.specs.Int.Signed.{lt_z}
use Rattle.numbers.specs.Integers.{sat16_of, round_shift_of, mod_z}
use Rattle.lookup.specs.Lookup.{cos_q15}
use Rattle.decoder_record_q15.specs.Fit.{fit_q15}
use Rattle.decoder_parts.specs.Rules.{reaches_q15}
use Rattle.decoder_record.specs.State.{Pll}
use Rattle.decoder.specs.Machine.{Arithmetic, Stepped, step_of}

unfoldable pub level_q15 : ℤ → ℤ → ℤ → ℤ
level_q15 beta level q = level +ℤ beta *ℤ (q -ℤ round_shift_of level 31)

abbrev pub q15 : Arithmetic ℤ
q15 = record {
  lookup = cos_q15;
  usable = λ p. true;
  times = ◌*ℤ◌;
  nought = pos 0;
  level_next = level_q15;
  reaches = reaches_q15;
  under = lt_z;
  demodulate = λ x s2. sat16_of (round_shift_of (x *ℤ s2) 15);
  accumulate = λ integ ki e. integ +ℤ ki *ℤ e;
  minus = neg_ℤ;
  frequency = λ kp e integ. kp *ℤ e +ℤ integ;
  correction = λ f. mod_z (round_shift_of f 32) (2 ^ 32);
  fit = fit_q15;
}

-- one sample of a record that may be unfit: then it stays, and the difference is 0
abbrev pub step_if_fit : List ℤ → Pll ℤ → ℤ → ℤ → Stepped ℤ
step_if_fit t d x p = cond (fit_q15 d) (step_of q15 t d x p) (record { sum = x; difference = pos 0; pll = d })
