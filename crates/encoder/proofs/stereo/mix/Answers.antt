use Rattle.std.proofs.Common.{◌∙◌, le_refl}
use Rattle.answers.proofs.Samples.{filled_start, filled_next, filled_end}
use Rattle.answers.proofs.Passes.{untouched_start, untouched_next}
use Rattle.encoder.proofs.stereo.mix.Goals as goal

pub loop-i-init : goal.loop-i-init
loop-i-init c = (filled_start c.requires.1, untouched_start)

pub loop-i-preserved : goal.loop-i-preserved
loop-i-preserved c =
    let k = c.loop-i.invariant in
    (filled_next k.0 c.loop-i-test.true (c.mixed.ensures ∙ rw (k.1.rest _ (le_refl _))), untouched_next k.1 _)

pub returns : goal.returns
returns c = let k = c.loop-i.invariant in filled_end k.0 c.loop-i.auto.i-end c.loop-i-test.false
