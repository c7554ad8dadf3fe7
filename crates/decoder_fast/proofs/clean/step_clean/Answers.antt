use mathlib.Core.Path.{refl, ◌∙◌}
use lib.Ieee.{binary32, mul}
use Rattle.decoder_record.specs.Records.{pll_of_f32}
use Rattle.decoder.specs.F32.{f32}
use Rattle.decoder.proofs.Steps.{Parts, advanced_is, step_is}
use Rattle.decoder_fast.proofs.clean.step_clean.Goals as goal

pub returns : goal.returns
returns c =
    let a = c.args in
    let e = mul binary32 a.p c.interp_f32_pair-cs.result.c in
    let parts : Parts f32 a.table.now (pll_of_f32 a.d) a.x a.p e c.level_next-level.result c.demodulated-difference.result c.decided-stereo.result (pll_of_f32 c.advanced.result) = record {
      error = rw (c.requires.finite, c.interp_f32_pair-cs.ensures);
      lock = c.level_next-level.ensures ∙ rw (c.requires.finite, c.interp_f32_pair-cs.ensures);
      decision = c.decided-stereo.ensures ∙ rw c.requires.finite;
      heard = c.demodulated-difference.ensures ∙ rw (c.cos_f32-s2.ensures, c.sine_at_twice.ensures);
      advanced = c.advanced.ensures ∙ advanced_is f32 (pll_of_f32 a.d) e c.level_next-level.result c.decided-stereo.result c.integrated-integ.ensures c.correction_clean-k.ensures.step refl;
    } in
    record { leaves = step_is f32 a.table.now (pll_of_f32 a.d) a.x a.p parts; wide = c.correction_clean-k.ensures.wide ∙ rw (c.integrated-integ.ensures, parts.error) }
