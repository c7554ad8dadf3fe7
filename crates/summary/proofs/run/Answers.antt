use Prim.Native.Nat.{◌*◌, ◌^◌, ◌<◌}
use mathlib.Core.Path.{◌≡◌, refl, sym, ap, ◌∙◌}
use native.Mathlib.Omega.{arith}
use lib.ListN.{length, get_or}
use lib.Ieee.{nan, of_bits}
use Rattle.phase.specs.Correction.{is_wide}
use Rattle.counted.specs.Counted.{count}
use Rattle.decoder_gains.specs.Gains.{nought}
use Rattle.decoder_record.specs.Records.{pll_of_f32}
use Rattle.decoder.specs.F32.{f32}
use Rattle.decoder.proofs.Loops.{any_default}
use Rattle.decoder_fast.proofs.Counting.{told, wide_start, fits_next, wide_next, wide_end}
use Rattle.summary_record.specs.F32.{unsigned_f32, summary_of_f32}
use Rattle.summary_record.proofs.Fits.{fitted}
use Rattle.summary_record.proofs.Sign.{unsigned_f32_lem}
use Rattle.summary_call.proofs.Noting.{noting_start, noting_on, noting_full, noting_end}
use Rattle.summary.proofs.run.Goals.{then-is_full, else-is_full}
use Rattle.summary.proofs.run.Goals as goal

pub loop-i-init : goal.loop-i-init
loop-i-init c =
    let a = c.args in
    let m = c.requires.lengths in
    let n = c.requires.columns in (
      wide_start f32 is_wide a.table.now a.mpx.now a.pilot.now (pll_of_f32 a.d),
      noting_start f32 unsigned_f32 unsigned_f32_lem a.table.now a.mpx.now a.pilot.now (pll_of_f32 a.d) (summary_of_f32 a.s) m.1 m.2 n.0 n.1 n.2 n.3 refl (fitted f32 unsigned_f32 (summary_of_f32 a.s) c.requires.summary),
    )

-- a slice takes fewer than 2^63 bytes
pub overflow_add-wide : goal.overflow_add-wide
overflow_add-wide c =
    let a = c.args in
    let of-mpx : length a.mpx.now * 4 < 2 ^ 63 = c.well_formed.1.1.1.0.1 in
    fits_next f32 is_wide a.table.now a.mpx.now a.pilot.now (pll_of_f32 a.d) c.loop-i.i c.step_checked-o.result.wide c.loop-i.invariant.0 c.loop-i-test.true of-mpx

pub loop-i-preserved : goal.loop-i-preserved
unfolding of_bits
loop-i-preserved c =
    let a = c.args in
    let l = c.loop-i in
    let h = c.loop-i-test.true in
    let ex : get_or a.mpx.now l.i nan ≡ get_or a.mpx.now l.i nought = any_default a.mpx.now l.i nan nought h in
    let ep : get_or a.pilot.now l.i nan ≡ get_or a.pilot.now l.i nought = any_default a.pilot.now l.i nan nought (omega (arith, c.requires.lengths.0, h)) in
    let wides = wide_next f32 is_wide a.table.now a.mpx.now a.pilot.now (pll_of_f32 a.d) l.i l.invariant.0 l.invariant.1.going.state ep (told l.wide c.step_checked-o.result.wide c.step_checked-o.ensures.wide) in
    elim c.if-is_full.branch [
      | then-is_full w ↦
          rw (w.stereos-is, w.monos-is, w.changes-is, w.magnitudes-is, w.counts-is, w.magnitude-is, w.k-is, w.empty-counts.ensures)
          (wides, noting_full f32 unsigned_f32 unsigned_f32_lem a.table.now a.mpx.now a.pilot.now (pll_of_f32 a.d) (summary_of_f32 a.s) l.invariant.1 h ex ep c.step_checked-o.ensures.leaves refl c.counted-counts.ensures.exact c.larger-magnitude.ensures (sym c.is_full.ensures ∙ w.if-is_full.true))
      | else-is_full w ↦
          rw (w.stereos-is, w.monos-is, w.changes-is, w.magnitudes-is, w.counts-is, w.magnitude-is, w.k-is)
          (wides, noting_on f32 unsigned_f32 unsigned_f32_lem a.table.now a.mpx.now a.pilot.now (pll_of_f32 a.d) (summary_of_f32 a.s) l.invariant.1 h ex ep c.step_checked-o.ensures.leaves refl c.counted-counts.ensures.exact c.larger-magnitude.ensures (sym c.is_full.ensures ∙ w.if-is_full.false))
    ]

pub returns : goal.returns
returns c =
    let l = c.loop-i in
    let a = c.args in
    record {
      leaves = noting_end f32 unsigned_f32 unsigned_f32_lem _ _ _ _ _ l.invariant.1 c.loop-i-test.false;
      count = ap count (wide_end f32 is_wide a.table.now a.mpx.now a.pilot.now (pll_of_f32 a.d) l.i l.invariant.0 l.invariant.1.going.below c.loop-i-test.false);
    }
