use mathlib.Core.Path.{◌∙◌}
use mir.Syntax.{w64}
use mir.Facts.{to_z-of_z}
use Rattle.rounding.proofs.Lin.{back}
use Rattle.decoder_q15.proofs.plain.level_next.Goals as goal

pub level_after-requires : goal.level_after-requires
level_after-requires c =
    rw (to_z-of_z c.ranges.beta, to_z-of_z c.ranges.level, to_z-of_z c.ranges.q) (record { level = c.requires.level; product = c.requires.product; rounded = back w64 c.round_shift.result c.round_shift.type_inv ∙ c.round_shift.ensures ∙ rw (to_z-of_z c.ranges.level) })

pub returns : goal.returns
returns c =
    back w64 c.level_after.result c.level_after.type_inv
    ∙ c.level_after.ensures
    ∙ rw (to_z-of_z c.ranges.beta, to_z-of_z c.ranges.level, to_z-of_z c.ranges.q)
