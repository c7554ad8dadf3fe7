use mathlib.Core.Path.{◌≡◌}
use mathlib.Core.List.{◌++◌}
use lib.ListN.{length, take, drop}
use Rattle.rack_waiting.specs.Waiting.{parts_of}
use Rattle.rack_waiting.proofs.parts.Given as goal

abbrev pub invariant-loop-k : goal.invariant-loop-k
invariant-loop-k l =
    (length l.waiting ≡ 8) × (length l.cut ≡ 8) × (take l.k l.cut ++ parts_of (drop l.k l.waiting) l.left ≡ parts_of l.waiting l.initial.left)
