use mathlib.Core.Path.{◌≡◌}
use mathlib.Core.Logic.{⊎_elim}
use mathlib.Core.Bool.{true, cond}
use lib.Ieee.{lt, neg}
use Rattle.summary_record.proofs.in_f32.larger.Goals.{else-m-y, then-m-y}
use Rattle.summary_record.proofs.in_f32.larger.Goals as goal

pub returns-then-a-y : goal.returns-then-a-y
returns-then-a-y c =
    let under : lt c.if-m-y.a (neg c.args.y) ≡ true = c.if-a-y.true in
    rw (← (let it : c.if-m-y.a ≡ cond (lt c.args.m c.args.y) c.args.y c.args.m = elim c.if-m-y.branch [ then-m-y w ↦ let over : lt c.args.m c.args.y ≡ true = w.if-m-y.true in rw over w.a-is | else-m-y w ↦ rw w.if-m-y.false w.a-is ] in it), under)

pub returns-else-a-y : goal.returns-else-a-y
returns-else-a-y c = rw (← (let it : c.if-m-y.a ≡ cond (lt c.args.m c.args.y) c.args.y c.args.m = elim c.if-m-y.branch [ then-m-y w ↦ let over : lt c.args.m c.args.y ≡ true = w.if-m-y.true in rw over w.a-is | else-m-y w ↦ rw w.if-m-y.false w.a-is ] in it), c.if-a-y.false)
