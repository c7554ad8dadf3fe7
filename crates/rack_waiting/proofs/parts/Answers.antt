use mathlib.Core.Path.{refl, ◌∙◌}
use native.Mathlib.Omega.{arith}
use borrow.Author.Rules.{rules}
use lib.ListN.{length-set}
use Rattle.rack_waiting.proofs.Loops.{parts_next, parts_end}
use Rattle.rack_waiting.proofs.parts.Goals as goal

pub loop-k-preserved : goal.loop-k-preserved
loop-k-preserved c =
    let i = c.loop-k.invariant in (
      i.0,
      simp length-set i.1,
      parts_next c.loop-k.k c.args.waiting c.loop-k.cut c.loop-k.left c.rest-left.result c.part.result _ (omega (arith, i.0)) (omega (arith, i.1)) c.part.ensures c.rest-left.ensures ∙ i.2,
    )

pub returns : goal.returns
returns c =
    let l = c.loop-k in
    parts_end l.k c.args.waiting l.cut l.left c.loop-k-test.false l.invariant.0 l.invariant.1 ∙ l.invariant.2

pub loop-k-init : goal.loop-k-init
loop-k-init c = (search rules, search rules, refl)
