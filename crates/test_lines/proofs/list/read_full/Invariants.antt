-- So far the list lost the bytes that stand at the line's start.
use Rattle.std.proofs.Common.{length, ◌-◌, ◌≤◌, take}
use Rattle.std.specs.Io.KnownBytes.{Consumes}
use Rattle.test_lines.proofs.list.read_full.Given as goal

abbrev pub invariant-loop-done : goal.invariant-loop-done
invariant-loop-done g l = (l.done ≤ length l.line) × Consumes (g.R.Read.remaining l.initial.list) (g.R.Read.remaining l.list) (take l.done l.line)

abbrev pub decreases-loop-done : goal.decreases-loop-done
decreases-loop-done g l = length l.initial.line - l.done
