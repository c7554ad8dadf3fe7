use Prim.Native.Nat.{◌+◌, ◌*◌, ◌^◌, ◌<◌, min}
use mathlib.Core.Path.{◌≡◌, ◌∙◌}
use native.Mathlib.Omega.{arith}
use borrow.Author.Rules.{rules}
use lib.ListN.{length, get_or, length-map, length-set, get_or-map}
use Rattle.counted.specs.Counted.{said_in, count_in}
use Rattle.decoder_record.specs.Records.{pll_of_f32}
use Rattle.rack_waiting.specs.declared.Waiting.{Waiting}
use Rattle.rack_waiting.proofs.Loops.{map_set}
use Rattle.rack.proofs.Absent.{absent}
use Rattle.rack_round.proofs.Parts.{small, place, end_fits}
use Rattle.rack_round.proofs.Working.{Inside, length_queues, working_start, sum_kept, difference_kept, working_end, room, taken_room, working_next}
use Rattle.rack_round.proofs.Wide.{wides_start, wides_end, wides_lent}
use Rattle.rack.proofs.work.Goals.{After-least}
use Rattle.rack.proofs.work.Goals as goal

pub loop-k-init : goal.loop-k-init
loop-k-init c = (
  search rules,
  search rules,
  working_start c.requires.agreed,
  wides_start (length-map c.args.decoders pll_of_f32 ∙ search rules) (length_queues c.args.parts _ ∙ search rules),
)

-- one turn: where what the decoder takes ends, from the loop's invariant, the test, and what `least` answered
ends : (c : After-least) (w : Waiting) → c.least.result ≡ min c.args.share (get_or c.args.parts c.loop-k.k w).mpx → Inside (c.loop-k.a + c.least.result) (record { mpx = c.args.mpx.now; pilot = c.args.pilot.now; sum = c.args.sum.now; difference = c.args.difference.now })
ends c w e =
    let i = c.loop-k.invariant in
    let h = c.loop-k-test.true in
    taken_room i.2 w h (place c.loop-k.k c.args.number c.args.parts h c.requires.number i.0) c.least.result e

pub overflow_add-e : goal.overflow_add-e
overflow_add-e c =
    let of-mpx : length c.args.mpx.now * 4 < 2 ^ 63 = c.well_formed.1.1.1.1.1.0.1 in
    end_fits _ (length c.args.mpx.now) (ends (goal.at.overflow_add-e c).After-least _ c.least.ensures).mpx (omega (arith, of-mpx))

pub slice_bounds-block-end : goal.slice_bounds-block-end
slice_bounds-block-end c = (ends (goal.at.slice_bounds-block-end c).After-least _ c.least.ensures).mpx

pub slice_bounds-block-end-in-loop-k : goal.slice_bounds-block-end-in-loop-k
slice_bounds-block-end-in-loop-k c = (ends (goal.at.slice_bounds-block-end-in-loop-k c).After-least _ c.least.ensures).pilot

pub slice_bounds-block-end-in-loop-k-2 : goal.slice_bounds-block-end-in-loop-k-2
slice_bounds-block-end-in-loop-k-2 c =
    let l = ends (goal.at.slice_bounds-block-end-in-loop-k-2 c).After-least _ c.least.ensures in
    omega (arith, l.sum, sum_kept c.loop-k.invariant.2)

pub slice_bounds-block-end-in-loop-k-3 : goal.slice_bounds-block-end-in-loop-k-3
slice_bounds-block-end-in-loop-k-3 c =
    let l = ends (goal.at.slice_bounds-block-end-in-loop-k-3 c).After-least _ c.least.ensures in
    omega (arith, l.difference, difference_kept c.loop-k.invariant.2)

pub overflow_add-a : goal.overflow_add-a
overflow_add-a c =
    let i = c.loop-k.invariant in
    let h = c.loop-k-test.true in
    let of-mpx : length c.args.mpx.now * 4 < 2 ^ 63 = c.well_formed.1.1.1.1.1.0.1 in
    end_fits _ (length c.args.mpx.now) (room i.2 _ h (place c.loop-k.k c.args.number c.args.parts h c.requires.number i.0)).mpx (omega (arith, of-mpx))

pub loop-k-preserved : goal.loop-k-preserved
loop-k-preserved c =
    let i = c.loop-k.invariant in
    let h = c.loop-k-test.true in
    let k = c.loop-k.k in
    let here = place k c.args.number c.args.parts h c.requires.number i.0 in
    let eight : k < 8 = small k c.args.number h c.requires.number in
    let b = c.block-reply in
    let e = get_or-map pll_of_f32 c.loop-k.next k absent in (
      i.0,
      simp length-set i.1,
      rw (map_set pll_of_f32 c.loop-k.next k b.result.decoder)
          (working_next i.2 _ h here (pll_of_f32 absent) (omega (arith, eight, i.3.decoders)) c.least.result c.least.ensures
          {s = said_in b.result.answer} {vy = b.new.sum} {vz = b.new.difference}
          (rw e b.ensures.0) b.auto.sum b.auto.difference),
      wides_lent i.3 i.2 _ h here (pll_of_f32 absent) c.least.result c.least.ensures
          {c = count_in b.result.answer} c.wide_of.ensures (rw e b.ensures.1),
    )

pub returns : goal.returns
returns c =
    let i = c.loop-k.invariant in
    record { leaves = working_end i.2 c.loop-k-test.false; wide = wides_end i.3 _ i.2.upto c.loop-k-test.false }
