-- What construction's formulas and tests say of the gains: none is negative, beta is at most 1, and each is
-- finite and not 0 as f32. Assumes nothing.
use Prim.Native.Nat.{◌*◌}
use mathlib.Core.Path.{◌≡◌, sym, ◌∙◌}
use mathlib.Core.Bool.{Bool, true, false, not, ◌&&◌, and-false, false≢true}
use native.Mathlib.Omega.{arith}
use native.Mathlib.Nat.{zero-mul, mul-one}
use borrow.Author.Tests.{eqb-true}
use lib.Dec.{T, eqb}
use lib.IntN.{pos}
use lib.Ieee.{Float, nan, inf, fin, binary32, binary64, of_bits, up, down, round, mul, div, lt, le, eq}
use lib.Ieee.Scale.{finite}
use lib.Ieee.Fits.{down_pos}
use Rattle.rounding.proofs.Finite.{round_zero, eq_zero}
use Rattle.answers.specs.Answer.{accepts, first_cause}
use Rattle.answers.proofs.Causes.{each, rule_passed}
use Rattle.answers.proofs.Tests.{and_out}
use Rattle.floats.specs.Floats.{to_format, positive, in_range}
use Rattle.decoder_gains.specs.Gains.{Gains, nought, one, pi, root2, imax_hz, narrows, all_narrow, gains_of, causes}
use Rattle.decoder_gains.proofs.Plus.{plus, plus_of_lt, mul_plus, div_plus}

pub record Sound (g : Gains Float) : Type 0 where
  pub kp : T (plus g.kp)
  pub ki : T (plus g.ki)
  pub imax : T (plus g.imax)
  pub beta : T (plus g.beta)
  pub beta_le : le g.beta one ≡ true

no_and_yes : (a b : Bool) → a && not b ≡ true → b ≡ true → ⊥
no_and_yes a true h e = false≢true (sym (and-false a) ∙ h)
no_and_yes a false h e = false≢true e

-- -0 is 0 as an f32 too
in_range_plus : (x : Float) → le nought x ≡ true → narrows x ≡ true → T (plus x)
unfolding le to_format
in_range_plus nan h k = tt
in_range_plus (inf true) h k = absurd (false≢true h)
in_range_plus (inf false) h k = tt
in_range_plus (fin false m e) h k = tt
in_range_plus (fin true m e) h k =
    let z : m * up e ≡ 0 = omega (arith, zero-mul (down e), mul-one (m * up e), eqb-true (0 * down e) (m * up e * 1) (and_out (eqb (0 * down e) (m * up e * 1)) _ h).0) in
    absurd (no_and_yes (finite (to_format binary32 (fin true m e))) (eq (to_format binary32 (fin true m e)) nought) k (rw z (eq_zero (round binary32 true 0 (down e)) true (down e) (down_pos e) (round_zero binary32 true (down e) (down_pos e)))))

-- kp, ki and imax by their formulas
module _ (natural level rate : Float) (n : T (plus natural)) (l : T (plus level)) (r : T (plus rate)) where
  abbrev two : Float
  two = fin false 1 (pos 1)

  abbrev two_pi : Float
  two_pi = mul binary64 two pi

  abbrev kd : Float
  kd = div binary64 level two

  abbrev zeta : Float
  zeta = div binary64 (fin false 1 (pos 0)) root2

  abbrev wn : Float
  wn = div binary64 (mul binary64 two_pi natural) rate

  two_pi_plus : T (plus two_pi)
  unfolding of_bits
  two_pi_plus = mul_plus binary64 two pi tt tt

  below_plus : T (plus (mul binary64 kd two_pi))
  below_plus = mul_plus binary64 kd two_pi (div_plus binary64 level two l tt) two_pi_plus

  wn_plus : T (plus wn)
  wn_plus = div_plus binary64 (mul binary64 two_pi natural) rate (mul_plus binary64 two_pi natural two_pi_plus n) r

  kp_plus : T (plus (div binary64 (mul binary64 (mul binary64 two zeta) wn) (mul binary64 kd two_pi)))
  unfolding of_bits
  kp_plus =
      div_plus binary64 (mul binary64 (mul binary64 two zeta) wn) (mul binary64 kd two_pi)
      (mul_plus binary64 (mul binary64 two zeta) wn (mul_plus binary64 two zeta tt (div_plus binary64 (fin false 1 (pos 0)) root2 tt tt)) wn_plus) below_plus

  ki_plus : T (plus (div binary64 (mul binary64 wn wn) (mul binary64 kd two_pi)))
  ki_plus = div_plus binary64 (mul binary64 wn wn) (mul binary64 kd two_pi) (mul_plus binary64 wn wn wn_plus wn_plus) below_plus

-- a number that was tested to be above 0
tested_plus : (x : Float) (rest : Bool) → positive x && rest ≡ true → T (plus x)
tested_plus x rest h = plus_of_lt x (and_out (finite x) (lt nought x) (and_out (positive x) rest h).0).1

-- the gains that the causes 1 to 6 let pass
module _ (pilot natural level beta rate : Float) (h : accepts (first_cause (causes pilot natural level beta rate)) ≡ true) where
  abbrev g : Gains Float
  g = gains_of pilot natural level beta rate

  pub all_narrow_lem : all_narrow g ≡ true
  all_narrow_lem = rule_passed 6 (all_narrow g) (each (causes pilot natural level beta rate) h).1.1.1.1.1.0

  pub sound : Sound g
  unfolding gains_of round
  sound =
      let c = each (causes pilot natural level beta rate) h in
      let r = plus_of_lt rate (and_out (finite rate) (lt nought rate) (rule_passed 1 (positive rate) c.0)).1 in
      let n = tested_plus natural _ (rule_passed 3 (positive natural && _) c.1.1.0) in
      let l = tested_plus level _ (rule_passed 4 (positive level && _) c.1.1.1.0) in
      let b = and_out (le nought beta) _ (rule_passed 5 (in_range nought one beta) c.1.1.1.1.0) in
      let k2 = and_out (narrows g.kp) _ all_narrow_lem in
      let k3 = and_out (narrows g.ki) _ k2.1 in
      let k4 = and_out (narrows g.imax) _ k3.1 in
      record {
        kp = kp_plus natural level rate n l r;
        ki = ki_plus natural level rate n l r;
        imax = div_plus binary64 imax_hz rate tt r;
        beta = in_range_plus beta b.0 (and_out (narrows beta) _ k4.1).0;
        beta_le = b.1;
      }
