use Rattle.std.proofs.Common.{length, get_or}
use lib.Ieee.{nan, binary32, add, mul}
use Rattle.lookup.specs.Lookup.{sine_at, cos_f32}
use Rattle.encoder.proofs.Phases.{Sent}
use Rattle.answers.proofs.Passes.{Untouched}
use Rattle.encoder_rds.proofs.rds.add_rds.Given as goal

abbrev pub invariant-loop-i : goal.invariant-loop-i
invariant-loop-i l =
    Sent l.initial.p l.inc (length l.rds) (λ q k. add binary32 (get_or l.initial.output k nan) (mul binary32 (mul binary32 l.level (get_or l.rds k nan)) (cos_f32 l.table (sine_at 3 q)))) l.i l.p l.output
    × Untouched nan l.initial.output l.i l.output
