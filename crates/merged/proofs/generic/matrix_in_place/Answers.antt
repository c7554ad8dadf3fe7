use mathlib.Core.Path.{sym, ◌∙◌}
use Rattle.std.proofs.lemmas.List.{get_or_read_under}
use Rattle.merged.proofs.InPlace.{turning_start, turning_next}
use Rattle.merged.proofs.generic.matrix_in_place.Goals as goal

pub loop-i-preserved : goal.loop-i-preserved
loop-i-preserved g c =
    let S = g.S.Sample in
    let k = c.loop-i in
    let w = k.invariant in
    let h = c.loop-i-test.true in
    let s = get_or_read_under k.left k.i _ _ S.past c.index-left-i.is h (sym w.lefts.size) in
    let d = get_or_read_under k.right k.i _ _ S.past c.index-right-i.is h (sym w.rights.size) in
    turning_next S.left_of S.right_of S.past _ _ w h (c.left.ensures ∙ λ j. S.left_of (s j) (d j)) (c.right.ensures ∙ λ j. S.right_of (s j) (d j))

pub loop-i-init : goal.loop-i-init
loop-i-init g c = let S = g.S.Sample in turning_start S.left_of S.right_of S.past _ _ c.requires
