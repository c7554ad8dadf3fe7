use Rattle.std.proofs.Common.{refl, ◌∙◌, arith}
use Rattle.encoder.proofs.Phases.{sent_start, sent_next, sent_end}
use Rattle.encoder.proofs.stereo.subcarrier.Goals as goal

pub loop-i-init : goal.loop-i-init
loop-i-init c = sent_start (omega arith) refl

pub loop-i-preserved : goal.loop-i-preserved
loop-i-preserved c =
    let w = c.loop-i.invariant in
    sent_next w (omega (arith, w.filled.size)) (c.cos_f32.ensures ∙ rw c.sine_at_twice.ensures) c.wrapping_add_u32-at.ensures.value

pub returns : goal.returns
returns c = let w = c.loop-i.invariant in (sent_end w (omega (arith, w.filled.size))).1
