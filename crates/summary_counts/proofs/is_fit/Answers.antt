use Rattle.std.proofs.Common.{ℕ, not, ◌&&◌, eqb, ltb, leb, ap, ◌∙◌}
use mathlib.Core.Bool.{and_assoc}
use Rattle.summary_counts.specs.Counts.{held_of, counts_fit}
use Rattle.summary_counts.proofs.is_fit.Goals as goal

pub returns : goal.returns
unfolding counts_fit
returns c =
    let a = c.args.c in
    ap (λ (n : ℕ). not (eqb a.period 0) && ltb n a.period && leb a.changes n) c.held-n.ensures
    ∙ and_assoc (not (eqb a.period 0)) (ltb (held_of a) a.period) (leb a.changes (held_of a))
