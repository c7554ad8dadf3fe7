use Rattle.std.proofs.Common.{le_refl, arith}
use Rattle.encoder.proofs.Phases.{sent_start, sent_next, sent_end}
use Rattle.answers.proofs.Passes.{untouched_start, untouched_next}
use Rattle.encoder_rds.proofs.rds.add_rds.Goals as goal

pub loop-i-init : goal.loop-i-init
loop-i-init c = (sent_start (omega arith) c.requires, untouched_start)

pub loop-i-preserved : goal.loop-i-preserved
loop-i-preserved c =
    let k = c.loop-i.invariant in (
      sent_next k.0 c.loop-i-test.true (rw (c.cos_f32-s3.ensures, c.sine_at_thrice.ensures, k.1.rest _ (le_refl _))) c.wrapping_add_u32-p.ensures.value,
      untouched_next k.1 _,
    )

pub returns : goal.returns
returns c = (sent_end c.loop-i.invariant.0 c.loop-i-test.false).1
