use mathlib.Core.Path.{◌≡◌, ◌∙◌}
use mathlib.Core.Bool.{Bool, cond}
use lib.IntN.{ℤ, neg_ℤ}
use lib.Signed.{lt_z}
use mir.Facts.{to_z-of_z}
use Rattle.decoder.specs.Machine.{limited}
use Rattle.decoder_q15.specs.Q15.{q15}
use Rattle.decoder_record_q15.proofs.Ranges.{minus_fits, minus_held}
use Rattle.decoder_q15.proofs.parts.within.Goals.{else-x-imax, then-x-imax}
use Rattle.decoder_q15.proofs.parts.within.Goals as goal

-- I, X, Y and N are what the machine holds of imax, x, the number after the first limit, and -imax
first : {imax x I X : ℤ} {t : Bool} → I ≡ imax → X ≡ x → lt_z I X ≡ t → cond t I X ≡ cond (lt_z imax x) imax x
first i x p = rw (← i, ← x, p)

second : (imax x : ℤ) {Y N : ℤ} {t : Bool} → Y ≡ cond (lt_z imax x) imax x → N ≡ neg_ℤ imax → lt_z Y N ≡ t → cond t N Y ≡ limited q15 imax x
second imax x y n p = rw (← y, ← n, p)

pub overflow_sub-imax : goal.overflow_sub-imax
overflow_sub-imax c = minus_fits (to_z-of_z c.ranges.imax) c.ranges.imax c.requires

pub overflow_sub-result : goal.overflow_sub-result
overflow_sub-result c = minus_fits (to_z-of_z c.ranges.imax) c.ranges.imax c.requires

pub returns-then-y-imax : goal.returns-then-y-imax
returns-then-y-imax c =
    let f = c.ranges in
    second c.args.imax c.args.x
    (elim c.if-x-imax.branch [
      | then-x-imax w ↦ w.y-is ∙ first (to_z-of_z f.imax) (to_z-of_z f.x) w.if-x-imax.true
      | else-x-imax w ↦ w.y-is ∙ first (to_z-of_z f.imax) (to_z-of_z f.x) w.if-x-imax.false
    ])
    (minus_held (to_z-of_z f.imax) f.imax c.requires) c.if-y-imax.true

pub returns-else-y-imax : goal.returns-else-y-imax
returns-else-y-imax c =
    let f = c.ranges in
    second c.args.imax c.args.x
    (elim c.if-x-imax.branch [
      | then-x-imax w ↦ w.y-is ∙ first (to_z-of_z f.imax) (to_z-of_z f.x) w.if-x-imax.true
      | else-x-imax w ↦ w.y-is ∙ first (to_z-of_z f.imax) (to_z-of_z f.x) w.if-x-imax.false
    ])
    (minus_held (to_z-of_z f.imax) f.imax c.requires) c.if-y-imax.false
