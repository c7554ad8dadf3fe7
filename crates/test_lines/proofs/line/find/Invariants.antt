use Prim.Native.Nat.{◌-◌}
use mathlib.Core.Path.{◌≡◌}
use Rattle.test_lines.specs.Columns.{starts_with, name_at, first_of, find_of}
use Rattle.test_lines.proofs.line.find.Given as goal

abbrev pub invariant-loop-k : goal.invariant-loop-k
invariant-loop-k l = first_of (λ j. starts_with l.line (name_at l.names j)) l.k (l.count - l.k) ≡ find_of l.line l.names
