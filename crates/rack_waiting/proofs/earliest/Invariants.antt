use Prim.Native.Nat.{◌-◌}
use mathlib.Core.Path.{◌≡◌}
use lib.ListN.{drop}
use Rattle.answers.specs.Answer.{first_cause}
use Rattle.rack_waiting.specs.Beside.{beside}
use Rattle.rack_waiting.specs.Waiting.{cause_of}
use Rattle.rack_waiting.proofs.earliest.Given as goal

abbrev pub invariant-loop-k : goal.invariant-loop-k
invariant-loop-k l =
    first_cause (beside (cause_of l.table) (l.number - l.k) (drop l.k l.fits) (drop l.k l.waiting)) ≡ first_cause (beside (cause_of l.table) l.number l.fits l.waiting)
