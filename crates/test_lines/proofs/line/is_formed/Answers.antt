-- `test_lines::line::is_formed` meets its contract. Assumes nothing.
use mathlib.Core.Path.{◌∙◌}
use native.Mathlib.Omega.{arith}
use Rattle.test_lines.proofs.Reading.{stands, standing_next, not_formed, formed_by}
use Rattle.test_lines.proofs.line.is_formed.Goals as goal

pub returns-then-not-has-is_word : goal.returns-then-not-has-is_word
returns-then-not-has-is_word c =
    let i = c.before in
    let o = i.before.before.before in
    let s = o.args.line.now in
    not_formed s o.loop-k.at o.loop-k._k o.loop-k.invariant _ (omega arith)
    (stands s o.loop-k.at o.loop-k._k o.loop-k.invariant _ _ _ i.has.ensures i.is_word.ensures c.if-not-has-is_word.true)

pub loop-k-preserved : goal.loop-k-preserved
loop-k-preserved c =
    let i = c.before in
    let o = i.before.before.before in
    let s = o.args.line.now in
    standing_next s o.loop-k.at o.loop-k._k o.loop-k.invariant
    (stands s o.loop-k.at o.loop-k._k o.loop-k.invariant _ _ _ i.has.ensures i.is_word.ensures c.if-not-has-is_word.false)

pub returns : goal.returns
returns c =
    let o = c.before.before in
    c.has-2.ensures ∙ formed_by o.args.line.now o.loop-k.at o.loop-k._k o.loop-k.invariant _ (omega arith) (omega arith)
