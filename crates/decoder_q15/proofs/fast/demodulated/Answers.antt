-- `fast_q15::demodulated` meets its contract: a product of at most 2^30 in size, rounded, is at least -2^15,
-- so only the upper end is tested. Assumes nothing.
use Prim.Native.Nat.{◌^◌, ◌≤◌}
use mathlib.Core.Path.{◌≡◌, ◌∙◌}
use mathlib.Core.Bool.{Bool, false, cond}
use native.Mathlib.Omega.{arith}
use lib.Dec.{lit<}
use lib.IntN.{ℤ, pos, negsuc, nat_abs, ◌+ℤ◌, ◌*ℤ◌}
use lib.Signed.{lt_z, shr_z}
use mir.Syntax.{w16, w32}
use mir.Val.{SFits, to_z, of_z}
use mir.Facts.{sfits_widen, to_z-of_z}
use Rattle.rounding.proofs.Lin.{add_law, abs_out, mul_le, fits_abs, abs_fits, fit_in, shr_law, lt_no, lt_no_in, widened, shr_fits}
use Rattle.numbers.specs.Integers.{sat16_of, round_shift_of}
use Rattle.numbers.proofs.Integers.{round_is}
use Rattle.decoder_q15.proofs.fast.demodulated.Goals as goal

-- of z is what the machine holds of a z in 32 bits
abbrev of : ℤ → ℤ
of z = to_z w32 (of_z w32 z)

module _ (x s : ℤ) (f : SFits w16 x) (g : SFits w32 s) (small : nat_abs s ≤ 2 ^ 15) where
  abbrev X : ℤ
  X = of (to_z w16 (of_z w16 x))

  abbrev raised : ℤ
  raised = x *ℤ s +ℤ pos (2 ^ 14)

  abbrev y : ℤ
  y = shr_z raised (2 ^ 15)

  x_fits : SFits w32 (to_z w16 (of_z w16 x))
  x_fits = rw (to_z-of_z f) (sfits_widen tt f)

  x-is : X ≡ x
  x-is = widened w32 tt f

  product_le : nat_abs (x *ℤ s) ≤ 2 ^ 30
  product_le = mul_le x s (2 ^ 15) (2 ^ 15) (fits_abs f) small

  product_fits : SFits w32 (X *ℤ of s)
  product_fits = rw (x-is, to_z-of_z g) (abs_fits w32 (x *ℤ s) product_le (lit< tt))

  product_is : of (X *ℤ of s) ≡ x *ℤ s
  product_is = to_z-of_z product_fits ∙ rw (x-is, to_z-of_z g)

  raised_fits : SFits w32 (of (X *ℤ of s) +ℤ pos (2 ^ 14))
  raised_fits = let p = product_le in rw product_is (fit_in w32 raised (omega (arith, abs_out (x *ℤ s), add_law (x *ℤ s) (pos (2 ^ 14)))) (omega (arith, abs_out (x *ℤ s), add_law (x *ℤ s) (pos (2 ^ 14)))))

  abbrev Y : ℤ
  Y = of (shr_z (of (of (X *ℤ of s) +ℤ pos (2 ^ 14))) (2 ^ 15))

  y-is : Y ≡ y
  y-is = rw (to_z-of_z raised_fits, product_is) (to_z-of_z (shr_fits (2 ^ 15) (rw product_is at raised_fits)))

  rounded_is : round_shift_of (x *ℤ s) 15 ≡ y
  rounded_is = let p = product_le in round_is (x *ℤ s) 15 (λ e. omega arith) (lit< tt) (omega (arith, abs_out (x *ℤ s)))

  not_low : lt_z y (negsuc 32767) ≡ false
  not_low =
      let p = product_le in
      let a = abs_out (x *ℤ s) in
      let r = add_law (x *ℤ s) (pos (2 ^ 14)) in
      let q = shr_law raised (2 ^ 15) (lit< tt) in
      lt_no_in y (negsuc 32767) (omega arith)

  limited-is : {t : Bool} → lt_z (pos 32767) Y ≡ t → cond t (pos 32767) Y ≡ sat16_of (round_shift_of (x *ℤ s) 15)
  unfolding sat16_of
  limited-is h = rw (rounded_is, not_low, ← y-is, h)

  y-fits : lt_z (pos 32767) Y ≡ false → SFits w16 Y
  y-fits h = rw y-is (fit_in w16 y (omega (arith, lt_no (pos 32767) y (rw y-is at h))) (omega (arith, lt_no y (negsuc 32767) not_low)))

pub overflow_cast-y : goal.overflow_cast-y
overflow_cast-y c = x_fits c.args.x c.args.s2 c.ranges.x c.ranges.s2 c.requires

pub overflow_mul-y : goal.overflow_mul-y
overflow_mul-y c = product_fits c.args.x c.args.s2 c.ranges.x c.ranges.s2 c.requires

pub overflow_add-y : goal.overflow_add-y
overflow_add-y c = raised_fits c.args.x c.args.s2 c.ranges.x c.ranges.s2 c.requires

pub returns-then-y-gt32767 : goal.returns-then-y-gt32767
returns-then-y-gt32767 c = limited-is c.args.x c.args.s2 c.ranges.x c.ranges.s2 c.requires c.if-y-gt32767.true

pub overflow_cast-result : goal.overflow_cast-result
overflow_cast-result c = y-fits c.args.x c.args.s2 c.ranges.x c.ranges.s2 c.requires c.if-y-gt32767.false

pub returns : goal.returns
returns c =
    to_z-of_z (y-fits c.args.x c.args.s2 c.ranges.x c.ranges.s2 c.requires c.if-y-gt32767.false)
    ∙ limited-is c.args.x c.args.s2 c.ranges.x c.ranges.s2 c.requires c.if-y-gt32767.false
