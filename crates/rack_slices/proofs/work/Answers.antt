use mathlib.Core.Path.{refl, ◌∙◌}
use borrow.Author.Rules.{rules}
use lib.ListN.{length-map}
use Rattle.answers.proofs.Passes.{length_samples}
use Rattle.decoder_record.specs.Records.{pll_of_f32}
use Rattle.rack.proofs.Absent.{absent}
use Rattle.rack_round.proofs.Wide.{wides_start, wides_end}
use Rattle.rack_slices_round.proofs.Lending.{lending_start, lending_end, lending_past, in_mpx, in_pilot, in_sum, in_difference, lent_long, lending_next}
use Rattle.rack_slices_round.proofs.Wide.{wides_turned, wides_passed}
use Rattle.rack_slices.proofs.work.Goals.{then-w-gt0, else-w-gt0}
use Rattle.rack_slices.proofs.work.Goals as goal

pub loop-k-init : goal.loop-k-init
loop-k-init c =
    let p = c.requires in
    (lending_start (search rules) p.number p.even p.waiting, wides_start (length-map c.args.decoders pll_of_f32 ∙ search rules) (length_samples 8 _))

pub bounds-mpx-k : goal.bounds-mpx-k
bounds-mpx-k c = in_mpx c.loop-k.invariant.0 c.loop-k-test.true c.if-w-gt0.true

pub bounds-pilot-k : goal.bounds-pilot-k
bounds-pilot-k c = in_pilot c.loop-k.invariant.0 c.loop-k-test.true c.if-w-gt0.true

pub bounds-sum-k : goal.bounds-sum-k
bounds-sum-k c = in_sum c.loop-k.invariant.0 c.loop-k-test.true c.if-w-gt0.true

pub bounds-sum-k-then-w-gt0 : goal.bounds-sum-k-then-w-gt0
bounds-sum-k-then-w-gt0 c = in_sum c.loop-k.invariant.0 c.loop-k-test.true c.if-w-gt0.true

pub bounds-difference-k : goal.bounds-difference-k
bounds-difference-k c = in_difference c.loop-k.invariant.0 c.loop-k-test.true c.if-w-gt0.true

pub bounds-difference-k-then-w-gt0 : goal.bounds-difference-k-then-w-gt0
bounds-difference-k-then-w-gt0 c = in_difference c.loop-k.invariant.0 c.loop-k-test.true c.if-w-gt0.true

pub turn-turned-requires : goal.turn-turned-requires
turn-turned-requires c = lent_long c.loop-k.invariant.0 c.loop-k-test.true c.if-w-gt0.true

pub loop-k-preserved : goal.loop-k-preserved
loop-k-preserved c =
    let i = c.loop-k.invariant in
    let h = c.loop-k-test.true in
    elim c.if-w-gt0.branch [
      | then-w-gt0 w ↦ (
        lending_next i.0 h w.if-w-gt0.true absent w.turn-turned.result.decoder _ _ w.turn-turned.ensures.leaves refl refl w.sum-is w.difference-is w.next-is,
        wides_turned i.1 i.0 h absent w.if-w-gt0.true w.turn-turned.ensures.wide w.wide-is,
      )
      | else-w-gt0 w ↦ (
        lending_past i.0 h absent w.if-w-gt0.false w.sum-is w.difference-is w.next-is,
        wides_passed i.1 i.0 h absent w.if-w-gt0.false w.wide-is,
      )
    ]

pub returns : goal.returns
returns c =
    let i = c.loop-k.invariant in
    let e = c.loop-k-test.false in
    record { leaves = (lending_end i.0 e, i.0.sums_at, i.0.differences_at); wide = wides_end i.1 _ i.0.working.upto e }
