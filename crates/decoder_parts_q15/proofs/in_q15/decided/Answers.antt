use mathlib.Core.Path.{◌≡◌, refl}
use mathlib.Core.Bool.{Bool, true, false, cond}
use lib.IntN.{ℤ}
use lib.Signed.{lt_z, le_z}
use mir.Facts.{to_z-of_z}
use Rattle.decoder_parts.specs.Rules.{decide_q15}
use Rattle.decoder_parts_q15.proofs.in_q15.decided.Goals as goal

-- L, N and F are what the machine holds of the level and its two thresholds
by_tests : {level on off L N F : ℤ} {x y : Bool} (was : Bool) → L ≡ level → N ≡ on → F ≡ off → le_z N L ≡ x → lt_z L F ≡ y → cond x true (cond y false was) ≡ decide_q15 level on off was
by_tests was l n f p q = rw (← l, ← n, ← f, p, q)

pub returns-then-level-on : goal.returns-then-level-on
returns-then-level-on c = let f = c.ranges in by_tests _ (to_z-of_z f.level) (to_z-of_z f.on) (to_z-of_z f.off) c.if-level-on.true refl

pub returns-then-level-off : goal.returns-then-level-off
returns-then-level-off c = let f = c.ranges in by_tests _ (to_z-of_z f.level) (to_z-of_z f.on) (to_z-of_z f.off) c.if-level-on.false c.if-level-off.true

pub returns-else-level-off : goal.returns-else-level-off
returns-else-level-off c = let f = c.ranges in by_tests _ (to_z-of_z f.level) (to_z-of_z f.on) (to_z-of_z f.off) c.if-level-on.false c.if-level-off.false
