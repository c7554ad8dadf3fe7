use Prim.Native.Nat.{ℕ, ◌+◌, ◌^◌, ◌≤◌}
use mathlib.Core.Path.{◌≡◌, sym, ◌∙◌}
use mathlib.Core.Bool.{true, false}
use native.Mathlib.Omega.{arith}
use lib.IntN.{ℤ, pos, ◌+ℤ◌}
use lib.Signed.{lt_z, le_z, shr_z}
use mir.Syntax.{w64}
use mir.Val.{SFits, to_z, of_z}
use mir.Facts.{to_z-of_z}
use Rattle.rounding.proofs.Lin.{up, dn, add_law, lt_no, le_yes, fit_out, fit_in, shr_fits, back}
use Rattle.numbers.specs.Integers.{round_shift_of}
use Rattle.numbers.proofs.Integers.{round_is}
use Rattle.decoder_q15.proofs.parts.rounded.Goals as goal

-- there is room for the half
module _ (f m : ℤ) (s : SFits w64 f) (h : le_z f m ≡ true) (k : lt_z (pos 9223372034707292159) m ≡ false) where
  below : up f + 2147483648 ≤ dn f + 9223372036854775807
  below = omega (arith, le_yes f m h, lt_no (pos 9223372034707292159) m k)

  half_fits : (n : ℕ) → n ≤ 2147483648 → SFits w64 (f +ℤ pos n)
  half_fits n l = let a = add_law f (pos n) in let o = fit_out s in fit_in w64 (f +ℤ pos n) (omega (arith, below)) (omega arith)

  -- F is f as it is read
  half_is : {F : ℤ} → F ≡ f → to_z w64 (of_z w64 (shr_z (to_z w64 (of_z w64 (F +ℤ pos 2147483648))) (2 ^ 32))) ≡ round_shift_of f 32
  half_is e =
      let n = half_fits 2147483648 (omega arith) in
      rw (e, to_z-of_z n) (to_z-of_z (shr_fits (2 ^ 32) n) ∙ sym (round_is f 32 (λ e. omega arith) (omega arith) below))

pub returns-then-largest-gt9223372034707292159 : goal.returns-then-largest-gt9223372034707292159
returns-then-largest-gt9223372034707292159 c = back w64 c.round_shift.result c.round_shift.type_inv ∙ c.round_shift.ensures ∙ rw (to_z-of_z c.ranges.f)

pub overflow_add-result : goal.overflow_add-result
overflow_add-result c =
    rw (to_z-of_z c.ranges.f) (half_fits c.args.f c.args.largest c.ranges.f c.requires (rw (to_z-of_z c.ranges.largest) at c.if-largest-gt9223372034707292159.false) _ (omega arith))

pub returns : goal.returns
returns c =
    half_is c.args.f c.args.largest c.ranges.f c.requires (rw (to_z-of_z c.ranges.largest) at c.if-largest-gt9223372034707292159.false) (to_z-of_z c.ranges.f)
