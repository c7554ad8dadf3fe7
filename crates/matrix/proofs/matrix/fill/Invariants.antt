use lib.ListN.{length, get_or}
use Rattle.answers.proofs.Samples.{Filled}
use Rattle.matrix.proofs.matrix.fill.Given as goal

abbrev pub invariant-loop-i : goal.invariant-loop-i
invariant-loop-i g l =
    let S = g.S.Sample in
    Filled (length l.sum) (λ k. S.left_of (get_or l.sum k S.past) (get_or l.difference k S.past)) l.i l.left
    × Filled (length l.sum) (λ k. S.right_of (get_or l.sum k S.past) (get_or l.difference k S.past)) l.i l.right
