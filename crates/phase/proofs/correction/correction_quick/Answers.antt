use Rattle.std.proofs.Common.{sym, ap, ◌∙◌}
use lib.Ieee.{of_bits}
use Rattle.phase.specs.Correction.{v_of}
use Rattle.std.proofs.Common.{Some}
use Rattle.phase.proofs.Quick.{Ranged, ranged, sum_real, low_is, quick_by}
use Rattle.phase.proofs.correction.correction_quick.Goals.{Then-quick_serves}
use Rattle.phase.proofs.correction.correction_quick.Goals as goal

served : (c : Then-quick_serves) → Ranged (v_of c.f32_to_f64.result)
unfolding of_bits
served c = ranged _ (sym c.quick_serves.ensures ∙ c.if-quick_serves.true)

pub float_to_bits-low : goal.float_to_bits-low
unfolding of_bits
float_to_bits-low c = sum_real (served c)

pub returns-then-quick_serves : goal.returns-then-quick_serves
unfolding of_bits
returns-then-quick_serves c =
    let w = c.wrapping_sub_u32 in
    ap Some (low_is (served c.before) w.result w.type_inv w.ensures.value) ∙ quick_by c.f32_to_f64.ensures (sym c.quick_serves.ensures ∙ c.if-quick_serves.true)

pub returns : goal.returns
unfolding of_bits
returns c = quick_by c.f32_to_f64.ensures (sym c.quick_serves.ensures ∙ c.if-quick_serves.false)
