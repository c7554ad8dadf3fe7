-- d added or subtracted twice, limited each time, is 2d added or subtracted and limited once: where the first
-- step is limited, d has that sign, and the second goes the same way. Assumes nothing.
use Prim.Native.Nat.{◌+◌, ◌*◌, ◌<◌}
use mathlib.Core.Path.{◌≡◌, sym, ap, ◌∙◌}
use native.Mathlib.Omega.{arith}
use lib.IntN.{ℤ, pos, negsuc, neg_ℤ, ◌+ℤ◌, ◌-ℤ◌, ◌*ℤ◌}
use mir.Syntax.{w16}
use mir.Val.{SFits}
use Rattle.rounding.proofs.Lin.{up, dn, add_law, sub_law', up_neg, dn_neg, up_mul, dn_mul, lt_yes, lt_no_in, lt_yes_in, fit_out, eq_in}
use Rattle.numbers.specs.Integers.{sat16_of}
use Rattle.numbers.proofs.Integers.{sat_ways}

above : (x : ℤ) → 32767 + dn x < up x → sat16_of x ≡ pos 32767
unfolding sat16_of
above x h = rw (lt_yes_in (pos 32767) x (omega arith))

below : (x : ℤ) → up x + 32768 < dn x → sat16_of x ≡ negsuc 32767
unfolding sat16_of
below x h = rw (lt_no_in (pos 32767) x (omega arith), lt_yes_in x (negsuc 32767) (omega arith))

-- y is s + 2d
steps : (s d y : ℤ) → SFits w16 s → up y + (dn s + 2 * dn d) ≡ up s + 2 * up d + dn y → sat16_of (sat16_of (s +ℤ d) +ℤ d) ≡ sat16_of y
steps s d y f e =
    let r = fit_out f in
    let a = add_law s d in
    sat_ways (λ (z : ℤ). sat16_of (z +ℤ d) ≡ sat16_of y) (s +ℤ d)
    (λ h. let l = lt_yes (pos 32767) (s +ℤ d) h in above (pos 32767 +ℤ d) (omega (arith, add_law (pos 32767) d)) ∙ sym (above y (omega arith)))
    (λ _ h. let l = lt_yes (s +ℤ d) (negsuc 32767) h in below (negsuc 32767 +ℤ d) (omega (arith, add_law (negsuc 32767) d)) ∙ sym (below y (omega arith)))
    (λ _ _. ap sat16_of (eq_in (s +ℤ d +ℤ d) y (omega (arith, add_law (s +ℤ d) d))))

module _ (s d : ℤ) (f : SFits w16 s) where
  pub plus_twice : sat16_of (sat16_of (s +ℤ d) +ℤ d) ≡ sat16_of (s +ℤ pos 2 *ℤ d)
  plus_twice = steps s d (s +ℤ pos 2 *ℤ d) f (omega (arith, add_law s (pos 2 *ℤ d), up_mul 2 d, dn_mul 2 d))

  pub minus_twice : sat16_of (sat16_of (s -ℤ d) -ℤ d) ≡ sat16_of (s -ℤ pos 2 *ℤ d)
  minus_twice = steps s (neg_ℤ d) (s -ℤ pos 2 *ℤ d) f (omega (arith, sub_law' s (pos 2 *ℤ d), up_mul 2 d, dn_mul 2 d, up_neg d, dn_neg d))
