use mathlib.Core.Path.{refl}
use borrow.Author.Rules.{rules}
use Rattle.rack_q15.proofs.Absent.{absent}
use Rattle.rack_slices_round.proofs.Lending.{lending_start, lending_end, lending_past, in_mpx, in_pilot, in_sum, in_difference, lent_long, lending_next}
use Rattle.rack_slices_q15.proofs.work.Goals.{then-w-gt0, else-w-gt0}
use Rattle.rack_slices_q15.proofs.work.Goals as goal

pub loop-k-init : goal.loop-k-init
loop-k-init c =
    let p = c.requires in
    lending_start (search rules) p.number p.even p.waiting

pub bounds-mpx-k : goal.bounds-mpx-k
bounds-mpx-k c = in_mpx c.loop-k.invariant c.loop-k-test.true c.if-w-gt0.true

pub bounds-pilot-k : goal.bounds-pilot-k
bounds-pilot-k c = in_pilot c.loop-k.invariant c.loop-k-test.true c.if-w-gt0.true

pub bounds-sum-k : goal.bounds-sum-k
bounds-sum-k c = in_sum c.loop-k.invariant c.loop-k-test.true c.if-w-gt0.true

pub bounds-sum-k-then-w-gt0 : goal.bounds-sum-k-then-w-gt0
bounds-sum-k-then-w-gt0 c = in_sum c.loop-k.invariant c.loop-k-test.true c.if-w-gt0.true

pub bounds-difference-k : goal.bounds-difference-k
bounds-difference-k c = in_difference c.loop-k.invariant c.loop-k-test.true c.if-w-gt0.true

pub bounds-difference-k-then-w-gt0 : goal.bounds-difference-k-then-w-gt0
bounds-difference-k-then-w-gt0 c = in_difference c.loop-k.invariant c.loop-k-test.true c.if-w-gt0.true

pub turn-after-requires : goal.turn-after-requires
turn-after-requires c = lent_long c.loop-k.invariant c.loop-k-test.true c.if-w-gt0.true

pub loop-k-preserved : goal.loop-k-preserved
loop-k-preserved c =
    let i = c.loop-k.invariant in
    let h = c.loop-k-test.true in
    elim c.if-w-gt0.branch [
      | then-w-gt0 w ↦ lending_next i h w.if-w-gt0.true absent w.turn-after.result _ _ w.turn-after.ensures refl refl w.sum-is w.difference-is w.next-is
      | else-w-gt0 w ↦ lending_past i h absent w.if-w-gt0.false w.sum-is w.difference-is w.next-is
    ]

pub returns : goal.returns
returns c =
    let i = c.loop-k.invariant in
    (lending_end i c.loop-k-test.false, i.sums_at, i.differences_at)
