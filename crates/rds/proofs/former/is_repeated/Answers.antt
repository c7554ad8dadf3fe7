use mathlib.Core.Path.{sym, ap, ◌∙◌}
use mathlib.Core.Bool.{Bool, true, cond}
use lib.Dec.{eqb}
use Rattle.rds.proofs.former.is_repeated.Goals as goal

pub returns-then-is_version_b : goal.returns-then-is_version_b
returns-then-is_version_b c =
    let w = c.args.words in
    sym (ap (λ (b : Bool). cond b (eqb w.three w.one) true) (sym c.is_version_b.ensures ∙ c.if-is_version_b.true))

pub returns-else-is_version_b : goal.returns-else-is_version_b
returns-else-is_version_b c =
    let w = c.args.words in
    sym (ap (λ (b : Bool). cond b (eqb w.three w.one) true) (sym c.is_version_b.ensures ∙ c.if-is_version_b.false))
