use mathlib.Core.Path.{refl, sym, ◌∙◌}
use native.Mathlib.Omega.{arith}
use Rattle.rds_blocks.specs.Division.{remainder_of}
use Rattle.rds_blocks.proofs.Divide.{taken, passed, finished}
use Rattle.rds_blocks.proofs.division.remainder.Goals as goal

pub loop-n-init : goal.loop-n-init
unfolding remainder_of
loop-n-init c = refl

pub loop-n-preserved-then-has_place : goal.loop-n-preserved-then-has_place
loop-n-preserved-then-has_place c = taken _ _ (omega arith) c.loop-n.auto.n (sym c.has_place.ensures ∙ c.if-has_place.true) ∙ c.loop-n.invariant

pub loop-n-preserved : goal.loop-n-preserved
loop-n-preserved c = passed _ _ (omega arith) (sym c.has_place.ensures ∙ c.if-has_place.false) ∙ c.loop-n.invariant

pub returns : goal.returns
returns c = sym (finished c.loop-n.n c.loop-n.x (omega arith)) ∙ c.loop-n.invariant
