use Prim.Native.Nat.{min}
use mathlib.Core.Path.{◌≡◌}
use mathlib.Core.List.{map}
use lib.ListN.{length, take}
use Rattle.rack_waiting.specs.Beside.{over}
use Rattle.rack_waiting.specs.Waiting.{takes_of}
use Rattle.rack_waiting.proofs.taken.Given as goal

abbrev pub invariant-loop-k : goal.invariant-loop-k
invariant-loop-k l =
    (length l.waiting ≡ 8) × (l.n ≡ min l.number 8) × (l.counts ≡ over (map (takes_of l.share) (take l.k l.waiting)) (map (λ w. 0) l.waiting))
