use mathlib.Core.Path.{◌∙◌}
use mir.Syntax.{w16, w64}
use lib.Ieee.{of_bits}
use Rattle.rounding.proofs.Lin.{back}
use Rattle.scale.proofs.scale.q15_from_f64.Goals as goal

pub returns : goal.returns
unfolding of_bits
returns c =
    let v = c.floor_scaled in
    back w16 c.sat16.result c.sat16.type_inv ∙ c.sat16.ensures ∙ rw (back w64 v.result v.type_inv, v.ensures)
