use mathlib.Core.Path.{◌≡◌, ◌∙◌}
use mathlib.Core.Logic.{⊎_elim}
use mathlib.Core.Bool.{Bool, true, false, cond}
use lib.IntN.{ℤ, negsuc}
use lib.Signed.{lt_z}
use mir.Syntax.{w16}
use mir.Val.{to_z}
use mir.Facts.{to_z-of_z}
use Rattle.summary_record.proofs.Negative.{minus_fits, minus_is, negative_larger, other_larger}
use Rattle.summary_record.proofs.in_q15.larger.Goals.{else-m-y, then-m-y}
use Rattle.summary_record.proofs.in_q15.larger.Goals as goal

pub returns-then-y-ltminus32767 : goal.returns-then-y-ltminus32767
returns-then-y-ltminus32767 c =
    let t : lt_z c.args.y (negsuc 32766) ≡ true = rw (to_z-of_z c.ranges.y) at c.if-y-ltminus32767.true in
    rw t

pub overflow_sub-y : goal.overflow_sub-y
overflow_sub-y c = minus_fits (to_z-of_z c.ranges.y) c.ranges.y (let it : lt_z c.args.y (negsuc 32766) ≡ false = rw (to_z-of_z c.ranges.y) at c.if-y-ltminus32767.false in it)

pub overflow_sub-result : goal.overflow_sub-result
overflow_sub-result c = minus_fits (to_z-of_z c.ranges.y) c.ranges.y (let it : lt_z c.args.y (negsuc 32766) ≡ false = rw (to_z-of_z c.ranges.y) at c.if-y-ltminus32767.false in it)

-- M and Y are what the machine holds of m and y
greater : {m y M Y : ℤ} {t : Bool} → M ≡ m → Y ≡ y → lt_z M Y ≡ t → cond t Y M ≡ cond (lt_z m y) y m
greater i x p = rw (← i, ← x, p)

pub returns-then-a-y : goal.returns-then-a-y
returns-then-a-y c =
    let f = c.ranges in
    let above : lt_z c.args.y (negsuc 32766) ≡ false = rw (to_z-of_z f.y) at c.if-y-ltminus32767.false in
    negative_larger c.args.m c.args.y
    (elim c.if-m-y.branch [
      | then-m-y w ↦ w.a-is ∙ greater (to_z-of_z f.m) (to_z-of_z f.y) w.if-m-y.true
      | else-m-y w ↦ w.a-is ∙ greater (to_z-of_z f.m) (to_z-of_z f.y) w.if-m-y.false
    ])
    (minus_is (to_z-of_z f.y) f.y above) c.if-a-y.true ∙ rw above

pub returns-else-a-y : goal.returns-else-a-y
returns-else-a-y c =
    let f = c.ranges in
    let above : lt_z c.args.y (negsuc 32766) ≡ false = rw (to_z-of_z f.y) at c.if-y-ltminus32767.false in
    other_larger c.args.m c.args.y
    (elim c.if-m-y.branch [
      | then-m-y w ↦ w.a-is ∙ greater (to_z-of_z f.m) (to_z-of_z f.y) w.if-m-y.true
      | else-m-y w ↦ w.a-is ∙ greater (to_z-of_z f.m) (to_z-of_z f.y) w.if-m-y.false
    ])
    (minus_is (to_z-of_z f.y) f.y above) c.if-a-y.false ∙ rw above
