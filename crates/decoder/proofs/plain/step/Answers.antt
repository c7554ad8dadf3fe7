use mathlib.Core.Path.{refl, ◌∙◌}
use Rattle.decoder_record.specs.Records.{pll_of_f32}
use Rattle.decoder.specs.F32.{f32}
use Rattle.decoder.proofs.Steps.{Parts, advanced_is, step_is}
use Rattle.decoder.proofs.plain.step.Goals as goal

pub returns : goal.returns
returns c =
    let k = c in
    let w = k.before.before in
    let g = w.before in
    let m = g.before in
    let b = m.before.before in
    let l = b.before in
    let e = l.before in
    let c3 = e.before in
    let c2 = c3.before.before in
    let c1 = c2.before.before in
    let a = c1.args in
    let parts : Parts f32 a.table.now (pll_of_f32 a.d) a.x a.p e.error_of-e.result l.level_of-level.result m.demodulated-difference.result b.stereo_of-stereo.result (pll_of_f32 c.advanced.result) = record {
      error = e.error_of-e.ensures ∙ rw c1.cos_f32-c.ensures;
      lock = l.level_of-level.ensures ∙ rw (c2.cos_f32-s.ensures, c2.sine_at.ensures);
      decision = b.stereo_of-stereo.ensures;
      heard = m.demodulated-difference.ensures ∙ rw (c3.cos_f32-s2.ensures, c3.sine_at_twice.ensures);
      advanced = c.advanced.ensures ∙ advanced_is f32 (pll_of_f32 a.d) e.error_of-e.result l.level_of-level.result b.stereo_of-stereo.result (w.within-integ.ensures ∙ rw g.accumulated.ensures) k.correction_plain-correction.ensures refl;
    } in
    step_is f32 a.table.now (pll_of_f32 a.d) a.x a.p parts
