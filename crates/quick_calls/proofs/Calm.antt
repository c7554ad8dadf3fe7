-- With tables and pilot in -1 to 1 and moderate gains every f32 phase correction takes the quick way: one
-- sample, and what construction gives and every event keeps. Assumes nothing.
use Prim.Native.Nat.{ℕ, suc, ◌+◌, ◌-◌, ◌*◌, ◌^◌}
use mathlib.Core.Path.{◌≡◌, refl}
use mathlib.Core.Bool.{Bool, true, false, cond}
use mathlib.Core.List.{List}
use native.Mathlib.Omega.{arith}
use borrow.Author.Tests.{lt-ltb}
use lib.Dec.{T, lit<, lit≤}
use lib.IntN.{pos, negsuc}
use lib.Ieee.{Float, nan, inf, fin, binary32, binary64, up, down, mul, neg, lt, le}
use lib.Ieee.Exact.{HasValue}
use lib.Ieee.Fits.{down_pos}
use lib.Ieee.Positive.{num, den, den_pos}
use lib.Ieee.Scale.{finite}
use Rattle.rounding.proofs.Bound.{Upto, within_finite, within_neg, within_between, add_within, mul_within, shares}
use Rattle.lookup.specs.Lookup.{cos_f32}
use Rattle.phase.specs.Correction.{v_of, quick_serves}
use Rattle.answers.specs.Answer.{made}
use Rattle.decoder_gains.specs.Gains.{Gains, nought}
use Rattle.decoder_gains.proofs.Plus.{plus}
use Rattle.decoder_record.specs.State.{Pll, enabled_of, reset_of}
use Rattle.decoder_record.specs.Fresh.{new_f32_of}
use Rattle.decoder.specs.Machine.{error_of, integ_of, frequency_of, advanced_by, step_of}
use Rattle.decoder.specs.F32.{f32}
use Rattle.calls.specs.Events.{unit_table}
use Rattle.calls.proofs.LimitF32.{Proper, InBounds, holds, real, unit_within, cos_within, start_bounded, integ_bounded, next_bounded, bounded_new}
use Rattle.quick_calls.specs.Quiet.{unit, most, moderate}

-- of the gains, which no event changes
pub record Mild (g : Gains Float) : Type 0 where
  pub proper : Proper g
  pub small : moderate g ≡ true

-- and of the integrator
pub record Calm (d : Pll Float) : Type 0 where
  pub mild : Mild d.gains
  pub low : T (le (neg d.gains.imax) d.moving.integ)
  pub high : T (le d.moving.integ d.gains.imax)

calm_in : (d : Pll Float) → moderate d.gains ≡ true → InBounds d → Calm d
calm_in d m b = record { mild = record { proper = b.proper; small = m }; low = b.low; high = b.high }

calm_out : (d : Pll Float) → Calm d → InBounds d
calm_out d c = record { proper = c.mild.proper; low = c.low; high = c.high }

pub calm_new : (pilot natural level beta rate : Float) (d : Pll Float) → new_f32_of pilot natural level beta rate ≡ made d
    → moderate d.gains ≡ true → Calm d
calm_new pilot natural level beta rate d h m = calm_in d m (bounded_new pilot natural level beta rate d h)

pub calm_next : (t : List Float) (d : Pll Float) (x p : Float) → unit_table t ≡ true → Calm d → Calm (step_of f32 t d x p).pll
unfolding step_of advanced_by
calm_next t d x p h c = calm_in (step_of f32 t d x p).pll c.mild.small (next_bounded t d x p h (calm_out d c))

pub calm_switch : (d : Pll Float) (b : Bool) → Calm d → Calm (enabled_of b d)
calm_switch d b c = record { mild = c.mild; low = c.low; high = c.high }

pub mild_next : (t : List Float) (d : Pll Float) (x p : Float) → Mild d.gains → Mild (step_of f32 t d x p).pll.gains
unfolding step_of advanced_by
mild_next t d x p m = m

-- a reset sets the integrator to 0, whatever it was
pub calm_reset : (d : Pll Float) → Mild d.gains → Calm (reset_of nought d)
calm_reset d m = calm_in (reset_of nought d) m.small (start_bounded d.gains m.proper)

-- ---- one sample
plain : (x : Float) → T (finite x) → T (plus x) → HasValue x false (num x) (den x)
plain nan f p = absurd f
plain (inf s) f p = absurd f
plain (fin true m e) f p = absurd p
plain (fin false m e) f p = (refl, refl)

serves : (v : Float) → Upto (2 ^ 52 - 1) v → quick_serves v ≡ true
unfolding lt
serves nan h = absurd h
serves (inf s) h = absurd h
serves (fin s m e) h = lt-ltb (m * up e * 1) (1 * 2 ^ 51 * down e) (omega (arith, down_pos e))

module _ (t : List Float) (d : Pll Float) (p : Float) (h : unit_table t ≡ true) (u : unit p ≡ true) (c : Calm d) where
  abbrev kp : Float
  kp = d.gains.kp

  abbrev imax : Float
  imax = d.gains.imax

  abbrev e : Float
  e = error_of f32 t d p

  error_within : Upto 3 e
  error_within = go (finite p)
    where
      go : (b : Bool) → Upto 3 (cond b (mul binary32 p (cos_f32 t d.moving.phase)) nought)
      go true =
          mul_within binary32 (λ q. 2) (λ q. 3) (λ q. 3) p (cos_f32 t d.moving.phase) (unit_within p u) (cos_within t d.moving.phase h) (omega arith)
      go false = lit≤ tt

  -- in halves: where kp is at most n + 1 and imax at most 2^19 + 1 - n, kp times e is at most n + 2^19 - 2
  frequency_within : (n k : ℕ) → n + k ≡ 2 ^ 19 + 1 → Upto (suc n) kp → Upto k imax
      → Upto (2 ^ 20 - 1) (frequency_of f32 d e)
  frequency_within n k s a b =
      let i = integ_bounded d.gains d.moving.integ e (real e (within_finite (λ q. 3) e error_within)) (calm_out d c) in
      add_within binary32 (λ q. n + (2 ^ 19 - 2)) (λ q. k) (λ q. 2 ^ 20 - 1) (mul binary32 kp e) (integ_of f32 d e)
      (mul_within binary32 (λ q. suc n) (λ q. 3) (λ q. n + (2 ^ 19 - 2)) kp e a error_within (λ q r. omega arith))
      (within_between (λ q. k) (neg imax) (integ_of f32 d e) imax (within_neg (λ q. k) imax b) b i.low i.high)
      (λ q. omega arith)

  v_within : Upto (2 ^ 52 - 1) (v_of (frequency_of f32 d e))
  v_within =
      let g = c.mild.proper in
      let kp-value = plain kp g.kp_finite g.kp_plus in
      let imax-value = plain imax g.imax_finite g.imax_plus in
      let r = shares binary32 (2 ^ 19) kp imax most (num kp) (den kp) (num imax) (den imax) (den_pos kp) (den_pos imax) kp-value imax-value (lit< tt) (lit≤ tt) (holds c.mild.small) in
      let f = frequency_of f32 d e in
      let f-within = frequency_within r.0 r.1 r.2 r.3 r.4 in
      let scaled = mul_within binary64 (λ q. 2 ^ 20 - 1) (λ q. 2 ^ 33) (λ q. 2 ^ 52 - 2 ^ 32) f (fin false 1 (pos 32)) f-within (lit≤ tt) (omega arith) in
      add_within binary64 (λ q. 2 ^ 52 - 2 ^ 32) (λ q. 1) (λ q. 2 ^ 52 - 1) (mul binary64 f (fin false 1 (pos 32))) (fin false 1 (negsuc 0)) scaled (lit≤ tt) (omega arith)

pub quick_step : (t : List Float) (d : Pll Float) (p : Float) → unit_table t ≡ true → unit p ≡ true → Calm d
    → quick_serves (v_of (frequency_of f32 d (error_of f32 t d p))) ≡ true
quick_step t d p h u c = serves (v_of (frequency_of f32 d (error_of f32 t d p))) (v_within t d p h u c)
