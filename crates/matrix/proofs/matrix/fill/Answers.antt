use mathlib.Core.Path.{refl, sym, ◌∙◌}
use Rattle.std.proofs.lemmas.List.{get_or_read_under}
use Rattle.answers.proofs.Samples.{filled_start, filled_next, filled_end}
use Rattle.matrix.proofs.matrix.fill.Goals as goal

pub loop-i-init : goal.loop-i-init
loop-i-init g c = (filled_start c.requires.1, filled_start c.requires.2)

pub loop-i-preserved : goal.loop-i-preserved
loop-i-preserved g c =
    let S = g.S.Sample in
    let k = c.loop-i in
    let h = c.loop-i-test.true in
    let s = get_or_read_under c.args.sum.now k.i _ _ S.past c.index-sum-i.is h refl in
    let d = get_or_read_under c.args.difference.now k.i _ _ S.past c.index-difference-i.is h (sym c.requires.0) in (
      filled_next k.invariant.0 h (c.left.ensures ∙ λ j. S.left_of (s j) (d j)),
      filled_next k.invariant.1 h (c.right.ensures ∙ λ j. S.right_of (s j) (d j)),
    )

pub returns : goal.returns
returns g c =
    let k = c.loop-i.invariant in
    let h = c.loop-i.auto.i-end in rw (filled_end k.0 h c.loop-i-test.false, filled_end k.1 h c.loop-i-test.false)
