use Prim.Native.Nat.{ℕ, min}
use mathlib.Core.Path.{sym, ap, ◌∙◌}
use mathlib.Core.List.{List, map}
use native.Mathlib.Omega.{arith}
use borrow.Author.Rules.{rules}
use lib.ListN.{set, length-map}
use Rattle.rack_waiting.specs.declared.Waiting.{Waiting}
use Rattle.rack_waiting.specs.Beside.{over}
use Rattle.rack_waiting.specs.Waiting.{takes_of}
use Rattle.rack_waiting.proofs.Loops.{over_next, cut_off, constant}
use Rattle.rack_waiting.proofs.taken.Goals as goal

pub loop-k-preserved : goal.loop-k-preserved
loop-k-preserved c =
    let a = c.args in
    let i = c.loop-k.invariant in (
      i.0,
      i.1,
      ap (λ (l : List ℕ). set l c.loop-k.k c.least.result) i.2
          ∙ over_next (takes_of a.share) c.loop-k.k a.waiting (map (λ w. 0) a.waiting) _ c.least.result (omega (arith, i.0, i.1)) (simp length-map (omega (arith, i.0, i.1))) c.least.ensures,
    )

pub returns : goal.returns
returns c =
    let l = c.loop-k in
    let a = c.args in
    let i = l.invariant in
    i.2 ∙ ap (λ (ws : List Waiting). over (map (takes_of a.share) ws) (map (λ w. 0) a.waiting)) (cut_off a.number _ l.k a.waiting (i.1 ∙ ap (min a.number) (sym i.0)) l.auto.k-end c.loop-k-test.false)

pub loop-k-init : goal.loop-k-init
loop-k-init c = (search rules, c.least-n.ensures, constant {B = ℕ} 0 8 c.args.waiting (search rules))
