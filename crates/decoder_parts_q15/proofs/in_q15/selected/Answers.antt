use mathlib.Core.Path.{◌∙◌}
use mir.Facts.{to_z-of_z}
use Rattle.decoder_parts_q15.proofs.in_q15.selected.Goals as goal

pub returns-then-on : goal.returns-then-on
returns-then-on c = to_z-of_z c.ranges.difference ∙ rw c.if-on.true

pub returns-else-on : goal.returns-else-on
returns-else-on c = rw c.if-on.false
