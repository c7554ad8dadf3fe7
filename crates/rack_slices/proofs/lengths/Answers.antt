use mathlib.Core.Path.{refl, sym, ◌∙◌}
use native.Mathlib.Omega.{arith}
use Rattle.answers.proofs.Samples.{filled_start, filled_next, filled_end}
use Rattle.rack_round.specs.Round.{waiting_of}
use Rattle.rack_slices_round.proofs.Places.{long_at}
use Rattle.rack_slices_round.proofs.Within.{map_samples}
use Rattle.std.proofs.Common.{inl, inr}
use Rattle.rack_slices.proofs.lengths.Goals.{then-k-mpx, else-k-mpx, then-k-pilot, else-k-pilot, then-k-sum, else-k-sum, then-k-difference, else-k-difference}
use Rattle.rack_slices.proofs.lengths.Goals as goal

pub loop-k-preserved : goal.loop-k-preserved
loop-k-preserved c =
    let k = c.loop-k.k in
    let a = c.args in
    let x = long_at (λ x. x.now) a.mpx.now k _ (λ h. h) (λ h. h) (elim c.if-k-mpx.branch [ then-k-mpx w ↦ inl (w.if-k-mpx.true, w.x-is) | else-k-mpx w ↦ inr (w.if-k-mpx.false, w.x-is) ]) in
    let p = long_at (λ x. x.now) a.pilot.now k _ (λ h. h) (λ h. h) (elim c.if-k-pilot.branch [ then-k-pilot w ↦ inl (w.if-k-pilot.true, w.p-is) | else-k-pilot w ↦ inr (w.if-k-pilot.false, w.p-is) ]) in
    let y = long_at (λ x. x.now) a.sum.now k _ (λ h. h) (λ h. h) (elim c.if-k-sum.branch [ then-k-sum w ↦ inl (w.if-k-sum.true, w.y-is) | else-k-sum w ↦ inr (w.if-k-sum.false, w.y-is) ]) in
    let z = long_at (λ x. x.now) a.difference.now k _ (λ h. h) (λ h. h) (elim c.if-k-difference.branch [ then-k-difference w ↦ inl (w.if-k-difference.true, w.z-is) | else-k-difference w ↦ inr (w.if-k-difference.false, w.z-is) ]) in
    filled_next c.loop-k.invariant (omega arith) (λ j. record { mpx = x j; pilot = p j; sum = y j; difference = z j })

pub loop-k-init : goal.loop-k-init
loop-k-init c = filled_start refl

pub returns : goal.returns
returns c = (filled_end c.loop-k.invariant c.loop-k.auto.k-end c.loop-k-test.false ∙ sym (map_samples waiting_of 8 _), refl, refl)
