use Rattle.std.proofs.Common.{length}
use Rattle.lookup.specs.Lookup.{sine_at, cos_f32}
use Rattle.encoder.proofs.Phases.{Sent}
use Rattle.encoder.proofs.stereo.subcarrier.Given as goal

abbrev pub invariant-loop-i : goal.invariant-loop-i
invariant-loop-i l = Sent l.initial.at l.inc (length l.initial.output) (λ q k. cos_f32 l.table (sine_at 2 q)) l.i l.at l.output
