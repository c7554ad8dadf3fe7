use native.Mathlib.Omega.{arith}
use lib.Ieee.{nan}
use Rattle.decoder_gains.specs.Gains.{nought}
use Rattle.decoder.specs.F32.{f32}
use Rattle.decoder_record.specs.Records.{pll_of_f32}
use Rattle.decoder.proofs.Loops.{going_start, going_next, going_end, any_default}
use Rattle.decoder.proofs.plain.run.Goals as goal

pub loop-i-init : goal.loop-i-init
loop-i-init c = going_start f32 _ _ _ _ c.requires.1 c.requires.2

pub loop-i-preserved : goal.loop-i-preserved
loop-i-preserved c =
    let a = c.args in
    let k = c.loop-i in
    let h = c.loop-i-test.true in
    going_next f32 a.table.now a.mpx.now a.pilot.now (pll_of_f32 a.d) k.invariant h
    (any_default a.mpx.now k.i nan nought h)
    (any_default a.pilot.now k.i nan nought (omega (arith, c.requires.0)))
    c.step-o.ensures

pub returns : goal.returns
returns c = going_end f32 _ _ _ _ c.loop-i.invariant c.loop-i-test.false
