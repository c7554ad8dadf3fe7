use Prim.Native.Nat.{◌^◌, ◌≤◌}
use lib.Dec.{lit<}
use lib.IntN.{ℤ, nat_abs, ◌*ℤ◌}
use mir.Syntax.{w16, w32, w64}
use mir.Val.{SFits}
use mir.Facts.{sfits_widen, to_z-of_z}
use Rattle.rounding.proofs.Lin.{mul_le, fits_abs, abs_fits, widened}
use Rattle.decoder_q15.proofs.fast.product.Goals as goal

fits : (a b : ℤ) → SFits w16 a → nat_abs b ≤ 2 ^ 15 → SFits w32 (a *ℤ b)
fits a b f h = abs_fits w32 (a *ℤ b) (mul_le a b (2 ^ 15) (2 ^ 15) (fits_abs f) h) (lit< tt)

pub overflow_cast-result : goal.overflow_cast-result
overflow_cast-result c = rw (to_z-of_z c.ranges.a) (sfits_widen tt c.ranges.a)

pub overflow_mul-result : goal.overflow_mul-result
overflow_mul-result c = rw (widened w32 tt c.ranges.a, to_z-of_z c.ranges.b) (fits c.args.a c.args.b c.ranges.a c.requires)

pub overflow_cast-result-2 : goal.overflow_cast-result-2
overflow_cast-result-2 c = let h = fits c.args.a c.args.b c.ranges.a c.requires in rw (widened w32 tt c.ranges.a, to_z-of_z c.ranges.b, to_z-of_z h) (sfits_widen tt h)

pub returns : goal.returns
returns c = let h = fits c.args.a c.args.b c.ranges.a c.requires in rw (widened w32 tt c.ranges.a, to_z-of_z c.ranges.b, widened w64 tt h)
