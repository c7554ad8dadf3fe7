use Rattle.std.proofs.Common.{◌-ℤ◌, ap, ◌∙◌, w16, rules}
use Rattle.rounding.proofs.Lin.{back}
use Rattle.numbers.specs.Integers.{sat16_of}
use Rattle.numbers.proofs.Integers.{widen, difference_fits, cast_held, cast_difference}
use Rattle.numbers.proofs.fixed.q15_sub_sat.Goals as goal

pub returns : goal.returns
returns c =
    let s = c.before in
    back w16 c.sat16.result c.sat16.type_inv
    ∙ c.sat16.ensures
    ∙ ap sat16_of (cast_held ◌-ℤ◌ s.ranges.a s.ranges.b (difference_fits _ _ s.ranges.a s.ranges.b))
