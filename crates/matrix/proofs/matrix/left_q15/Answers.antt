use mathlib.Core.Path.{◌∙◌}
use mir.Syntax.{w16}
use mir.Facts.{to_z-of_z}
use Rattle.rounding.proofs.Lin.{back}
use Rattle.matrix.specs.Matrix.{left_q15}
use Rattle.matrix.proofs.Twice.{plus_twice}
use Rattle.matrix.proofs.matrix.left_q15.Goals as goal

pub returns : goal.returns
unfolding left_q15
returns c =
    let one = c.q15_add_sat in
    back w16 c.q15_add_sat-2.result c.q15_add_sat-2.type_inv
    ∙ c.q15_add_sat-2.ensures
    ∙ rw (back w16 one.result one.type_inv, one.ensures, to_z-of_z c.ranges.s, to_z-of_z c.ranges.d) (plus_twice c.args.s c.args.d c.ranges.s)
