use Rattle.std.proofs.Common.{length, get_or}
use lib.Ieee.{nan, binary32, add, mul}
use Rattle.lookup.specs.Lookup.{sine_at, cos_f32}
use Rattle.encoder.proofs.Phases.{Sent}
use Rattle.answers.proofs.Passes.{Untouched}
use Rattle.encoder.proofs.stereo.add_pilot.Given as goal

abbrev pub invariant-loop-i : goal.invariant-loop-i
invariant-loop-i l =
    Sent l.initial.p l.inc (length l.initial.output) (λ q k. add binary32 (get_or l.initial.output k nan) (mul binary32 l.e.pilot (cos_f32 l.table (sine_at 1 q)))) l.i l.p l.output
    × Untouched nan l.initial.output l.i l.output
