-- A step keeps a fit Q15 record fit, for any table; and a loop whose state stays fit. Assumes nothing.
use Prim.Native.Nat.{ℕ, ◌*◌, ◌+◌, ◌^◌, ◌<◌, ◌≤◌}
use mathlib.Core.Path.{◌≡◌, refl, ap}
use mathlib.Core.Bool.{Bool, true, false, cond, false≢true}
use mathlib.Core.List.{List}
use native.Mathlib.Omega.{arith}
use native.Mathlib.Nat.{le_refl, mul-le-mul}
use lib.IntN.{ℤ, pos, negsuc, neg_ℤ, nat_abs, ◌+ℤ◌, ◌*ℤ◌}
use lib.ListN.{length, get_or, set}
use lib.Signed.{mag, lt_z, le_z}
use mir.Syntax.{w16}
use mir.Val.{SFits}
use Rattle.answers.proofs.Tests.{and_out}
use Rattle.rounding.proofs.Lin.{up, dn, add_law, up_neg, dn_neg, up_mul, dn_mul, lt_no, le_yes, le_yes_in, abs_out}
use Rattle.numbers.proofs.Integers.{product_le}
use Rattle.lookup.specs.Lookup.{cos_q15, sine_at}
use Rattle.lookup.proofs.Between.{cos_q15_fits}
use Rattle.decoder_record.specs.State.{Pll}
use Rattle.decoder_record_q15.specs.Fit.{within_z, guard_of, fit_q15}
use Rattle.decoder_record_q15.proofs.Ranges.{within_out, within_in}
use Rattle.decoder_record_q15.proofs.Fit.{Fit, fit_in, fitted, room}
use Rattle.decoder.specs.Machine.{Stepped, limited, advanced_by, step_of}
use Rattle.decoder_q15.specs.Q15.{q15}
use Rattle.decoder_q15.proofs.Level.{next_within}
use Rattle.decoder.proofs.Loops.{Going, going_next}

-- what a limit m that is not below 0 limits lies within it
module _ (m : ℕ) where
  abbrev M : ℤ
  M = pos m

  limited_within : (x : ℤ) → within_z (neg_ℤ M) M (limited q15 M x) ≡ true
  limited_within x = first (lt_z M x) refl
    where
      second : (y : ℤ) → up y ≤ m + dn y → (t : Bool) → lt_z y (neg_ℤ M) ≡ t → within_z (neg_ℤ M) M (cond t (neg_ℤ M) y) ≡ true
      second y h true e = within_in (neg_ℤ M) M (neg_ℤ M) (omega arith) (omega (arith, up_neg M, dn_neg M))
      second y h false e = within_in (neg_ℤ M) M y (omega (arith, lt_no y (neg_ℤ M) e)) (omega arith)

      first : (t : Bool) → lt_z M x ≡ t → within_z (neg_ℤ M) M (let y = cond t M x in cond (lt_z y (neg_ℤ M)) (neg_ℤ M) y) ≡ true
      first true e = second M (omega arith) (lt_z M (neg_ℤ M)) refl
      first false e = second x (omega (arith, lt_no M x e)) (lt_z x (neg_ℤ M)) refl

module _ (d : Pll ℤ) (fit : fit_q15 d ≡ true) where
  abbrev f : Fit d
  f = fitted d fit

  limited_in : (x : ℤ) → within_z (neg_ℤ d.gains.imax) d.gains.imax (limited q15 d.gains.imax x) ≡ true
  limited_in x = go d.gains.imax f.imax
    where
      go : (m : ℤ) → le_z (pos 0) m ≡ true → within_z (neg_ℤ m) m (limited q15 m x) ≡ true
      go (pos m) p = limited_within m x
      go (negsuc m) p = absurd (false≢true p)

  pub ki_room : nat_abs d.gains.ki * 2 ^ 30 + nat_abs d.moving.integ < 2 ^ 63
  ki_room = room d fit d.gains.ki f.ki f.ki_guard d.moving.integ f.integ

  pub kp_room : (x : ℤ) → nat_abs d.gains.kp * 2 ^ 30 + nat_abs (limited q15 d.gains.imax x) < 2 ^ 63
  kp_room x = room d fit d.gains.kp f.kp f.kp_guard (limited q15 d.gains.imax x) (limited_in x)

  -- what kp's sum does not pass
  pub guard_room : nat_abs d.gains.kp * 2 ^ 30 + nat_abs d.gains.imax < 2 ^ 63
  guard_room = room d fit d.gains.kp f.kp f.kp_guard d.gains.imax (go d.gains.imax f.imax)
    where
      go : (m : ℤ) → le_z (pos 0) m ≡ true → within_z (neg_ℤ m) m m ≡ true
      go (pos m) p = within_in (neg_ℤ (pos m)) (pos m) (pos m) (omega (arith, up_neg (pos m), dn_neg (pos m))) (omega arith)
      go (negsuc m) p = absurd (false≢true p)

  pub guard_below : le_z (guard_of d.gains.kp d.gains.imax) (pos 9223372036854775807) ≡ true
  guard_below = (and_out (le_z (negsuc 9223372036854775807) (guard_of d.gains.kp d.gains.imax)) _ f.kp_guard).1

  under_guard : (e x : ℤ) → nat_abs e ≤ 2 ^ 30 → le_z (d.gains.kp *ℤ e +ℤ limited q15 d.gains.imax x) (guard_of d.gains.kp d.gains.imax) ≡ true
  under_guard e x h = go d.gains.kp f.kp
    where
      integ : ℤ
      integ = limited q15 d.gains.imax x

      go : (g : ℤ) → le_z (pos 0) g ≡ true → le_z (g *ℤ e +ℤ integ) (guard_of g d.gains.imax) ≡ true
      go (pos k) p =
          let w = within_out (neg_ℤ d.gains.imax) d.gains.imax integ (limited_in x) in
          let l : k * up e ≤ k * 2 ^ 30 = mul-le-mul (le_refl k) (omega (arith, abs_out e)) in
          le_yes_in (pos k *ℤ e +ℤ integ) (guard_of (pos k) d.gains.imax)
          (omega (arith, l, w.1, add_law (pos k *ℤ e) integ, up_mul k e, dn_mul k e, add_law (pos k *ℤ pos (2 ^ 30)) d.gains.imax, up_mul k (pos (2 ^ 30)), dn_mul k (pos (2 ^ 30))))
      go (negsuc k) p = absurd (false≢true p)

  pub under_largest : (e x m : ℤ) → nat_abs e ≤ 2 ^ 30 → le_z (guard_of d.gains.kp d.gains.imax) m ≡ true → le_z (d.gains.kp *ℤ e +ℤ limited q15 d.gains.imax x) m ≡ true
  under_largest e x m h k =
      through (d.gains.kp *ℤ e +ℤ limited q15 d.gains.imax x) (guard_of d.gains.kp d.gains.imax) m (under_guard e x h) k
    where
      through : (a b c : ℤ) → le_z a b ≡ true → le_z b c ≡ true → le_z a c ≡ true
      through a b c h k = le_yes_in a c (omega (arith, le_yes a b h, le_yes b c k))

  next_fit : (t : List ℤ) (x p : ℤ) → SFits w16 p → fit_q15 (step_of q15 t d x p).pll ≡ true
  unfolding step_of advanced_by
  next_fit t x p s =
      fit_in (step_of q15 t d x p).pll
      (record {
        kp = f.kp;
        ki = f.ki;
        imax = f.imax;
        kp_guard = f.kp_guard;
        ki_guard = f.ki_guard;
        integ = limited_in _;
        level = next_within d.gains.beta d.moving.level (p *ℤ cos_q15 t (sine_at 1 d.moving.phase)) f.level (product_le p _ s (cos_q15_fits t (sine_at 1 d.moving.phase)));
      })

pub fit_next : (t : List ℤ) (d : Pll ℤ) (x p : ℤ) → SFits w16 p → fit_q15 d ≡ true → fit_q15 (step_of q15 t d x p).pll ≡ true
fit_next t d x p s h = next_fit d h t x p s

-- ---- a loop's samples before i are done, and the state is fit
module _ (t mpx pilot : List ℤ) (d : Pll ℤ) where
  abbrev pub GoingFit : ℕ → List ℤ → List ℤ → Pll ℤ → Type 0
  GoingFit i sum difference st = Going q15 t mpx pilot d i sum difference st × (fit_q15 st ≡ true)

  -- one more sample, as `going_next` has it
  pub going_fit_next : {i : ℕ} {sum difference : List ℤ} {st st' : Pll ℤ} {x p y : ℤ} → GoingFit i sum difference st → i < length mpx → x ≡ get_or mpx i (pos 0) → mag (get_or pilot i (pos 0)) < 2 ^ 15 → p ≡ get_or pilot i (pos 0)
      → record { sum = x; difference = y; pll = st' } ≡ step_of q15 t st x p → GoingFit (i + 1) (set sum i x) (set difference i y) st'
  going_fit_next {i} {sum} {difference} {st} {st'} {x} {p} g h ex fp ep e =
      (going_next q15 t mpx pilot d g.0 h ex ep e, rw (ap (λ (z : Stepped ℤ). z.pll) e) (fit_next t st x p (rw ep (record { sfits = fp })) g.1))
