use Rattle.std.proofs.Common.{Bool, false, cond, pos, sym, ap, ◌∙◌}
use lib.Ieee.{fin, lt, neg, of_bits}
use Rattle.phase.proofs.Quick.{serves_by}
use Rattle.phase.proofs.correction.quick_serves.Goals as goal

pub returns-then-v : goal.returns-then-v
unfolding of_bits neg
returns-then-v c = let v = c.args.v in ap (λ (b : Bool). cond b (lt v (fin false 1 (pos 51))) false) (sym c.if-v.true) ∙ serves_by v

pub returns : goal.returns
unfolding of_bits neg
returns c = let v = c.args.v in ap (λ (b : Bool). cond b (lt v (fin false 1 (pos 51))) false) (sym c.if-v.false) ∙ serves_by v
