use Rattle.std.proofs.Common.{ℤ, ◌*ℤ◌, ap, ◌∙◌, ap₂, to_z-of_z, w16, w64, rules}
use Rattle.rounding.proofs.Lin.{back}
use Rattle.numbers.specs.Integers.{sat16_of, round_shift_of}
use Rattle.numbers.proofs.fixed.q15_mul.Goals as goal

pub returns : goal.returns
returns c =
    let r = c.before in
    let p = r.before in
    let s = p.before in
    back w16 c.sat16.result c.sat16.type_inv
    ∙ c.sat16.ensures
    ∙ ap sat16_of (back w64 r.round_shift.result r.round_shift.type_inv ∙ r.round_shift.ensures)
    ∙ ap (λ (z : ℤ). sat16_of (round_shift_of z 15))
    (back w64 p.q15_product.result p.q15_product.type_inv
    ∙ p.q15_product.ensures
    ∙ ap₂ ◌*ℤ◌ (to_z-of_z s.ranges.a) (to_z-of_z s.ranges.b))
