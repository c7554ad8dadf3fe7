use Rattle.std.proofs.Common.{length, get_or}
use lib.Ieee.{nan}
use Rattle.encoder.specs.Multiplex.{mixed_of}
use Rattle.answers.proofs.Samples.{Filled}
use Rattle.answers.proofs.Passes.{Untouched}
use Rattle.encoder.proofs.stereo.mix.Given as goal

abbrev pub invariant-loop-i : goal.invariant-loop-i
invariant-loop-i l =
    Filled (length l.left) (λ k. mixed_of l.main (get_or l.left k nan) (get_or l.right k nan) (get_or l.initial.output k nan)) l.i l.output
    × Untouched nan l.initial.output l.i l.output
