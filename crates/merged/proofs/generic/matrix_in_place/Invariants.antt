use Rattle.merged.proofs.InPlace.{Turning}
use Rattle.merged.proofs.generic.matrix_in_place.Given as goal

abbrev pub invariant-loop-i : goal.invariant-loop-i
invariant-loop-i g l = let S = g.S.Sample in Turning S.left_of S.right_of S.past l.initial.left l.initial.right l.i l.left l.right
