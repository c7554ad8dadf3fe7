use Rattle.std.proofs.Common.{◌≡◌, true, false, ℤ, pos, negsuc, ◌∙◌, arith, to_z-of_z, w16, SFits, ltb-false}
use lib.Signed.{lt_z}
use Rattle.numbers.specs.Integers.{sat16_of}
use Rattle.numbers.proofs.fixed.sat16.Goals as goal

-- y is x as the machine reads it back from its bits
fits : (y : ℤ) → lt_z (pos 32767) y ≡ false → lt_z y (negsuc 32767) ≡ false → SFits w16 y
fits (pos n) p q = record { sfits = omega (arith, ltb-false 32767 n p) }
fits (negsuc n) p q = record { sfits = omega (arith, ltb-false 32767 n q) }

above : {x y : ℤ} → y ≡ x → lt_z (pos 32767) y ≡ true → pos 32767 ≡ sat16_of x
unfolding sat16_of
above e p = rw (← e, p)

below : {x y : ℤ} → y ≡ x → lt_z (pos 32767) y ≡ false → lt_z y (negsuc 32767) ≡ true → negsuc 32767 ≡ sat16_of x
unfolding sat16_of
below e p q = rw (← e, p, q)

within : {x y : ℤ} → y ≡ x → lt_z (pos 32767) y ≡ false → lt_z y (negsuc 32767) ≡ false → y ≡ sat16_of x
unfolding sat16_of
within e p q = rw (← e, p, q)

pub overflow_cast-result : goal.overflow_cast-result
overflow_cast-result c = fits _ c.if-x-gt32767.false c.if-x-ltminus32768.false

pub returns-then-x-gt32767 : goal.returns-then-x-gt32767
returns-then-x-gt32767 c = above (to_z-of_z c.ranges.x) c.if-x-gt32767.true

pub returns-then-x-ltminus32768 : goal.returns-then-x-ltminus32768
returns-then-x-ltminus32768 c = below (to_z-of_z c.ranges.x) c.if-x-gt32767.false c.if-x-ltminus32768.true

pub returns-else-x-ltminus32768 : goal.returns-else-x-ltminus32768
returns-else-x-ltminus32768 c =
    to_z-of_z (fits _ c.if-x-gt32767.false c.if-x-ltminus32768.false)
    ∙ within (to_z-of_z c.ranges.x) c.if-x-gt32767.false c.if-x-ltminus32768.false
