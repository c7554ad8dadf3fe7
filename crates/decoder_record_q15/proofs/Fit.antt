-- A fit Q15 record: the tests one by one, and the room that they leave for a gain's product. Assumes nothing.
use Prim.Native.Nat.{◌*◌, ◌+◌, ◌^◌, ◌<◌}
use mathlib.Core.Path.{◌≡◌}
use mathlib.Core.Bool.{true, false≢true}
use lib.Dec.{T}
use lib.IntN.{ℤ, pos, negsuc, neg_ℤ, nat_abs}
use lib.Signed.{le_z, non_neg}
use Rattle.answers.proofs.Tests.{and_out}
use Rattle.decoder_record.specs.State.{Pll}
use Rattle.decoder_record_q15.specs.Fit.{within_z, fits64, guard_of, level_fit, fit_q15}
use Rattle.decoder_record_q15.proofs.Ranges.{not_below, guarded_sum}

pub record Fit (d : Pll ℤ) : Type 0 where
  pub kp : le_z (pos 0) d.gains.kp ≡ true
  pub ki : le_z (pos 0) d.gains.ki ≡ true
  pub imax : le_z (pos 0) d.gains.imax ≡ true
  pub kp_guard : fits64 (guard_of d.gains.kp d.gains.imax) ≡ true
  pub ki_guard : fits64 (guard_of d.gains.ki d.gains.imax) ≡ true
  pub integ : within_z (neg_ℤ d.gains.imax) d.gains.imax d.moving.integ ≡ true
  pub level : level_fit d.gains.beta d.moving.level ≡ true

pub fit_in : (d : Pll ℤ) → Fit d → fit_q15 d ≡ true
unfolding fit_q15
fit_in d f = rw (f.kp, f.ki, f.imax, f.kp_guard, f.ki_guard, f.integ, f.level)

pub fitted : (d : Pll ℤ) → fit_q15 d ≡ true → Fit d
unfolding fit_q15
fitted d h =
    let g = d.gains in
    let a = and_out (le_z (pos 0) g.kp) _ h in
    let b = and_out (le_z (pos 0) g.ki) _ a.1 in
    let c = and_out (le_z (pos 0) g.imax) _ b.1 in
    let e = and_out (fits64 (guard_of g.kp g.imax)) _ c.1 in
    let f = and_out (fits64 (guard_of g.ki g.imax)) _ e.1 in
    let i = and_out (within_z (neg_ℤ g.imax) g.imax d.moving.integ) _ f.1 in
    record { kp = a.0; ki = b.0; imax = c.0; kp_guard = e.0; ki_guard = f.0; integ = i.0; level = i.1 }

module _ (d : Pll ℤ) (fit : fit_q15 d ≡ true) where
  abbrev f : Fit d
  f = fitted d fit

  pub level_fit_lem : level_fit d.gains.beta d.moving.level ≡ true
  level_fit_lem = f.level

  pub limit : T (non_neg d.gains.imax)
  limit = not_below d.gains.imax f.imax

  -- an offset within the limit leaves room for a gain's product
  module _ (gain : ℤ) (up : le_z (pos 0) gain ≡ true) (guard : fits64 (guard_of gain d.gains.imax) ≡ true) where
    pub room : (offset : ℤ) → within_z (neg_ℤ d.gains.imax) d.gains.imax offset ≡ true → nat_abs gain * 2 ^ 30 + nat_abs offset < 2 ^ 63
    room offset h = go d.gains.imax f.imax guard h
      where
        go : (m : ℤ) → le_z (pos 0) m ≡ true → fits64 (guard_of gain m) ≡ true → within_z (neg_ℤ m) m offset ≡ true → nat_abs gain * 2 ^ 30 + nat_abs offset < 2 ^ 63
        go (pos m) p g w = guarded_sum m gain offset up g w
        go (negsuc m) p g w = absurd (false≢true p)
