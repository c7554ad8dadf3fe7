use Prim.Native.Nat.{◌+◌, ◌*◌, ◌^◌, ◌<◌, min}
use mathlib.Core.Path.{◌≡◌, ◌∙◌}
use mathlib.Core.List.{map}
use native.Mathlib.Omega.{arith}
use borrow.Author.Rules.{rules}
use lib.ListN.{length, get_or, length-map, length-set, get_or-map}
use Rattle.answers.specs.Answer.{says}
use Rattle.decoder_record_q15.specs.Records.{pll_of_q15}
use Rattle.rack_waiting.specs.declared.Waiting.{Waiting}
use Rattle.rack_waiting.proofs.Loops.{map_set}
use Rattle.rack_q15.proofs.Absent.{absent}
use Rattle.rack_round.proofs.Parts.{place, end_fits}
use Rattle.rack_round.proofs.Working.{Inside, working_start, sum_kept, difference_kept, working_end, room, taken_room, working_next}
use Rattle.rack_q15.proofs.work.Goals.{After-least}
use Rattle.rack_q15.proofs.work.Goals as goal

pub loop-k-init : goal.loop-k-init
loop-k-init c = (
  search rules,
  search rules,
  search rules,
  working_start c.requires.agreed,
)

-- one turn: where what the decoder takes ends, from the loop's invariant, the test, and what `least` answered
ends : (c : After-least) (w : Waiting) → c.least.result ≡ min c.args.share (get_or c.args.parts c.loop-k.k w).mpx → Inside (c.loop-k.a + c.least.result) (record { mpx = c.args.mpx.now; pilot = c.args.pilot.now; sum = c.args.sum.now; difference = c.args.difference.now })
ends c w e =
    let i = c.loop-k.invariant in
    let h = c.loop-k-test.true in
    taken_room i.3 w h (place c.loop-k.k c.args.number c.args.parts h c.requires.number i.0) c.least.result e

pub overflow_add-e : goal.overflow_add-e
overflow_add-e c =
    let of-mpx : length c.args.mpx.now * 2 < 2 ^ 63 = c.well_formed.1.1.1.1.1.0.1 in
    end_fits _ (length c.args.mpx.now) (ends (goal.at.overflow_add-e c).After-least _ c.least.ensures).mpx (omega (arith, of-mpx))

pub slice_bounds-block-end : goal.slice_bounds-block-end
slice_bounds-block-end c = (ends (goal.at.slice_bounds-block-end c).After-least _ c.least.ensures).mpx

pub slice_bounds-block-end-in-loop-k : goal.slice_bounds-block-end-in-loop-k
slice_bounds-block-end-in-loop-k c = (ends (goal.at.slice_bounds-block-end-in-loop-k c).After-least _ c.least.ensures).pilot

pub slice_bounds-block-end-in-loop-k-2 : goal.slice_bounds-block-end-in-loop-k-2
slice_bounds-block-end-in-loop-k-2 c =
    let l = ends (goal.at.slice_bounds-block-end-in-loop-k-2 c).After-least _ c.least.ensures in
    omega (arith, l.sum, sum_kept c.loop-k.invariant.3)

pub slice_bounds-block-end-in-loop-k-3 : goal.slice_bounds-block-end-in-loop-k-3
slice_bounds-block-end-in-loop-k-3 c =
    let l = ends (goal.at.slice_bounds-block-end-in-loop-k-3 c).After-least _ c.least.ensures in
    omega (arith, l.difference, difference_kept c.loop-k.invariant.3)

pub overflow_add-a : goal.overflow_add-a
overflow_add-a c =
    let i = c.loop-k.invariant in
    let h = c.loop-k-test.true in
    let of-mpx : length c.args.mpx.now * 2 < 2 ^ 63 = c.well_formed.1.1.1.1.1.0.1 in
    end_fits _ (length c.args.mpx.now) (room i.3 _ h (place c.loop-k.k c.args.number c.args.parts h c.requires.number i.0)).mpx (omega (arith, of-mpx))

pub loop-k-preserved : goal.loop-k-preserved
loop-k-preserved c =
    let i = c.loop-k.invariant in
    let h = c.loop-k-test.true in
    let k = c.loop-k.k in
    let here = place k c.args.number c.args.parts h c.requires.number i.0 in
    let b = c.block-reply in (
      i.0,
      i.1,
      simp length-set i.2,
      rw (map_set pll_of_q15 c.loop-k.next k b.result.decoder)
          (working_next i.3 _ h here (pll_of_q15 absent) (place k c.args.number (map pll_of_q15 c.args.decoders) h c.requires.number (length-map c.args.decoders pll_of_q15 ∙ i.1)) c.least.result c.least.ensures
          {s = says b.result.answer} {vy = b.new.sum} {vz = b.new.difference}
          (rw (get_or-map pll_of_q15 c.loop-k.next k absent) b.ensures) b.auto.sum b.auto.difference),
    )

pub returns : goal.returns
returns c = working_end c.loop-k.invariant.3 c.loop-k-test.false
