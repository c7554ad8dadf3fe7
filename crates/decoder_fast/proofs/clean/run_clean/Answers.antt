use native.Mathlib.Omega.{arith}
use lib.Ieee.{nan}
use Rattle.phase.specs.Correction.{is_wide}
use Rattle.decoder_gains.specs.Gains.{nought}
use Rattle.decoder.specs.F32.{f32}
use Rattle.decoder_record.specs.Records.{pll_of_f32}
use Rattle.decoder_parts.proofs.Scan.{each_finite}
use Rattle.decoder.proofs.Loops.{any_default}
use Rattle.decoder_fast.proofs.Counting.{room_next, counting_start, counting_next, counting_end}
use Rattle.decoder_fast.proofs.clean.run_clean.Goals as goal

pub loop-i-init : goal.loop-i-init
loop-i-init c = let e = c.requires in counting_start f32 is_wide _ _ _ _ e.1 e.2

pub step_clean-o-requires : goal.step_clean-o-requires
step_clean-o-requires c =
    let a = c.args in
    let h = c.loop-i-test.true in
    record { finite = each_finite a.pilot.now c.loop-i.i nan c.requires.3 (omega (arith, c.requires.0, h)); room = room_next f32 is_wide a.table.now a.mpx.now a.pilot.now (pll_of_f32 a.d) c.loop-i.i c.loop-i.invariant.wides h c.well_formed.1.1.0.1 }

pub loop-i-preserved : goal.loop-i-preserved
loop-i-preserved c =
    let h = c.loop-i-test.true in
    let a = c.args in
    counting_next f32 is_wide a.table.now a.mpx.now a.pilot.now (pll_of_f32 a.d) c.loop-i.invariant h
    (any_default a.mpx.now c.loop-i.i nan nought h)
    (any_default a.pilot.now c.loop-i.i nan nought (omega (arith, c.requires.0)))
    c.step_clean-o.ensures.leaves
    c.step_clean-o.ensures.wide

pub returns : goal.returns
returns c =
    let it = counting_end f32 is_wide _ _ _ _ c.loop-i.invariant c.loop-i-test.false in
    record { leaves = it.0; wide = it.1 }
