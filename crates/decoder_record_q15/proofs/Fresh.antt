-- A construction that is accepted makes the fresh record, which is fit: its gains are not negative, beta is at
-- most 1, and the guards were tested. Assumes nothing.
use Prim.Native.Nat.{◌^◌}
use mathlib.Core.Path.{◌≡◌, subst}
use mathlib.Core.Bool.{true, ◌&&◌}
use mathlib.Core.List.{◌++◌}
use native.Mathlib.Omega.{arith}
use lib.IntN.{ℤ, pos, neg_ℤ}
use lib.Signed.{le_z}
use lib.Ieee.{Float}
use Rattle.rounding.proofs.Lin.{up_neg, dn_neg, le_yes}
use Rattle.answers.specs.Answer.{accepts, first_cause, made}
use Rattle.answers.proofs.Causes.{first_append, both, each, rule_passed, built_out}
use Rattle.answers.proofs.Tests.{and_out}
use Rattle.decoder_gains.specs.Gains.{Gains, gains_of, causes}
use Rattle.decoder_gains.proofs.Plus.{scaled_plus, scaled_upto}
use Rattle.decoder_gains.proofs.Sound.{Sound, sound}
use Rattle.decoder_record.specs.State.{Pll}
use Rattle.decoder_record_q15.specs.Fit.{within_z, fits64, guard_of, fit_q15}
use Rattle.decoder_record_q15.specs.Fresh.{all_hold, guarded, fresh_q15, causes_q15, new_q15_of}
use Rattle.decoder_record_q15.proofs.Ranges.{within_in}
use Rattle.decoder_record_q15.proofs.Fit.{fit_in}

module _ (pilot natural level beta rate : Float) where
  abbrev g : Gains Float
  g = gains_of pilot natural level beta rate

  -- the causes of both formats let it pass, then its own
  pub made_q15 : (d : Pll ℤ) → new_q15_of pilot natural level beta rate ≡ made d → (accepts (first_cause (causes pilot natural level beta rate)) ≡ true) × (accepts (first_cause (causes_q15 g)) ≡ true) × (fresh_q15 g ≡ d)
  unfolding new_q15_of
  made_q15 d h =
      let o = built_out (first_cause (causes pilot natural level beta rate ++ causes_q15 g)) (fresh_q15 g) h in
      let b = both (first_cause (causes pilot natural level beta rate)) (first_cause (causes_q15 g)) (rw (first_append (causes pilot natural level beta rate) (causes_q15 g)) at o.0) in
      (b.0, b.1, o.1)

-- ---- the record's tests
pub origin_within : (m : ℤ) → le_z (pos 0) m ≡ true → within_z (neg_ℤ m) m (pos 0) ≡ true
origin_within m h = let l = le_yes (pos 0) m h in within_in (neg_ℤ m) m (pos 0) (omega (arith, up_neg m, dn_neg m)) (omega arith)

fit_fresh : (g : Gains Float) → accepts (first_cause (causes_q15 g)) ≡ true → Sound g → fit_q15 (fresh_q15 g) ≡ true
fit_fresh g h s =
    let k = (fresh_q15 g).gains in
    let c = rule_passed 7 (all_hold g && guarded k) (each (causes_q15 g) h).0 in
    let e = and_out (fits64 (guard_of k.kp k.imax)) _ (and_out (all_hold g) (guarded k) c).1 in
    let u = scaled_upto g.beta s.beta s.beta_le in
    fit_in (fresh_q15 g)
    (record {
      kp = scaled_plus g.kp 34 s.kp;
      ki = scaled_plus g.ki 34 s.ki;
      imax = scaled_plus g.imax 64 s.imax;
      kp_guard = e.0;
      ki_guard = e.1;
      integ = origin_within k.imax (scaled_plus g.imax 64 s.imax);
      level = rw (u.2, within_in (pos 0) (pos (2 ^ 31)) (pos u.0) (omega arith) (omega (arith, u.1)));
    })

pub fit_new : (pilot natural level beta rate : Float) (d : Pll ℤ) → new_q15_of pilot natural level beta rate ≡ made d → fit_q15 d ≡ true
fit_new pilot natural level beta rate d h =
    let m = made_q15 pilot natural level beta rate d h in
    subst (λ (d : Pll ℤ). fit_q15 d ≡ true) m.2 (fit_fresh (gains_of pilot natural level beta rate) m.1 (sound pilot natural level beta rate m.0))
