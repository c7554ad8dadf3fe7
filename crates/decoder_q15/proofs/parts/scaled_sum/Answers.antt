use Prim.Native.Nat.{◌+◌, ◌*◌, ◌^◌, ◌≤◌, ◌<◌}
use native.Mathlib.Nat.{le_refl}
use native.Mathlib.Omega.{arith}
use lib.IntN.{ℤ, nat_abs, ◌+ℤ◌, ◌*ℤ◌}
use mir.Syntax.{w64}
use mir.Val.{SFits}
use mir.Facts.{to_z-of_z}
use Rattle.rounding.proofs.Lin.{add_le, mul_le, abs_fits}
use Rattle.decoder_q15.proofs.parts.scaled_sum.Goals as goal

module _ (gain e offset : ℤ) (h : nat_abs e ≤ 2 ^ 30) (room : nat_abs gain * 2 ^ 30 + nat_abs offset < 2 ^ 63) where
  product_le : nat_abs (gain *ℤ e) ≤ nat_abs gain * 2 ^ 30
  product_le = mul_le gain e (nat_abs gain) (2 ^ 30) (le_refl (nat_abs gain)) h

  product_fits : SFits w64 (gain *ℤ e)
  product_fits = abs_fits w64 (gain *ℤ e) product_le (omega arith)

  sum_fits : SFits w64 (gain *ℤ e +ℤ offset)
  sum_fits = let l = product_le in abs_fits w64 (gain *ℤ e +ℤ offset) {k = nat_abs gain * 2 ^ 30 + nat_abs offset} (omega (arith, add_le (gain *ℤ e) offset)) (omega arith)

pub overflow_mul-result : goal.overflow_mul-result
overflow_mul-result c = let a = c.args in rw (to_z-of_z c.ranges.gain, to_z-of_z c.ranges.e) (product_fits a.gain a.e a.offset c.requires.error c.requires.fits)

pub overflow_add-result : goal.overflow_add-result
overflow_add-result c =
    let a = c.args in
    rw (to_z-of_z c.ranges.gain, to_z-of_z c.ranges.e, to_z-of_z (product_fits a.gain a.e a.offset c.requires.error c.requires.fits), to_z-of_z c.ranges.offset)
    (sum_fits a.gain a.e a.offset c.requires.error c.requires.fits)

pub returns : goal.returns
returns c =
    let a = c.args in
    rw (to_z-of_z c.ranges.gain, to_z-of_z c.ranges.e, to_z-of_z (product_fits a.gain a.e a.offset c.requires.error c.requires.fits), to_z-of_z c.ranges.offset)
    (to_z-of_z (sum_fits a.gain a.e a.offset c.requires.error c.requires.fits))
