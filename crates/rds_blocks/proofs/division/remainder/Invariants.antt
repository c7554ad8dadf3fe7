use mathlib.Core.Path.{◌≡◌}
use Rattle.rds_blocks.specs.Division.{divided_from, remainder_of}
use Rattle.rds_blocks.proofs.division.remainder.Given as goal

abbrev pub invariant-loop-n : goal.invariant-loop-n
invariant-loop-n l = divided_from l.n l.x ≡ remainder_of l.number
