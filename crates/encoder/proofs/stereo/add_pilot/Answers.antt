use Rattle.std.proofs.Common.{refl, le_refl, arith}
use Rattle.encoder.proofs.Phases.{sent_start, sent_next, sent_end}
use Rattle.answers.proofs.Passes.{untouched_start, untouched_next}
use Rattle.encoder.proofs.stereo.add_pilot.Goals as goal

pub loop-i-init : goal.loop-i-init
loop-i-init c = (sent_start (omega arith) refl, untouched_start)

pub loop-i-preserved : goal.loop-i-preserved
loop-i-preserved c =
    let k = c.loop-i.invariant in (
      sent_next k.0 (omega (arith, k.0.filled.size)) (rw (c.cos_f32-s1.ensures, c.sine_at.ensures, k.1.rest _ (le_refl _))) c.wrapping_add_u32-p.ensures.value,
      untouched_next k.1 _,
    )

pub returns : goal.returns
returns c =
    let w = c.loop-i.invariant.0 in let it = sent_end w (omega (arith, w.filled.size)) in
    record { phase = it.0; samples = it.1 }
