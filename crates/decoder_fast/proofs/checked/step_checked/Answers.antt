use mathlib.Core.Path.{refl, ap, ◌∙◌}
use mathlib.Core.Bool.{not}
use Rattle.phase.specs.declared.correction.Corrected.{Corrected}
use Rattle.decoder_record.specs.Records.{pll_of_f32}
use Rattle.decoder.specs.F32.{f32}
use Rattle.decoder.proofs.Steps.{Parts, advanced_is, step_is}
use Rattle.decoder_fast.proofs.checked.step_checked.Goals as goal

pub returns : goal.returns
returns c =
    let a = c.args in
    let parts : Parts f32 a.table.now (pll_of_f32 a.d) a.x a.p c.error_of-e.result c.level_of-level.result c.demodulated-difference.result c.stereo_of-stereo.result (pll_of_f32 c.advanced.result) = record {
      error = c.error_of-e.ensures ∙ rw c.interp_f32_pair-cs.ensures;
      lock = c.level_of-level.ensures ∙ rw c.interp_f32_pair-cs.ensures;
      decision = c.stereo_of-stereo.ensures;
      heard = c.demodulated-difference.ensures ∙ rw (c.cos_f32-s2.ensures, c.sine_at_twice.ensures);
      advanced = c.advanced.ensures ∙ advanced_is f32 (pll_of_f32 a.d) c.error_of-e.result c.level_of-level.result c.stereo_of-stereo.result c.integrated-integ.ensures (ap (λ (r : Corrected). r.step) c.correction_fast-k.ensures) refl;
    } in
    record { leaves = step_is f32 a.table.now (pll_of_f32 a.d) a.x a.p parts; wide = ap (λ (r : Corrected). not r.quick) c.correction_fast-k.ensures ∙ rw (c.integrated-integ.ensures, parts.error) }
