use mathlib.Core.Path.{sym, ap, ◌∙◌}
use mathlib.Core.Bool.{Bool, cond}
use Rattle.rds_blocks.specs.declared.blocks.Offset.TheVariants.{C, CPrime}
use Rattle.rds.proofs.former.third_offset.Goals as goal

pub returns-then-is_version_b : goal.returns-then-is_version_b
returns-then-is_version_b c = sym (ap (λ (b : Bool). cond b CPrime C) (sym c.is_version_b.ensures ∙ c.if-is_version_b.true))

pub returns-else-is_version_b : goal.returns-else-is_version_b
returns-else-is_version_b c = sym (ap (λ (b : Bool). cond b CPrime C) (sym c.is_version_b.ensures ∙ c.if-is_version_b.false))
