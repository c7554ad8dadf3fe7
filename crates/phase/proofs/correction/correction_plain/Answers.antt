use Rattle.std.proofs.Common.{◌∙◌, w64}
use lib.Ieee.{of_bits}
use Rattle.rounding.proofs.Lin.{back}
use Rattle.phase.specs.Correction.{correction_of}
use Rattle.phase.proofs.correction.correction_plain.Goals as goal

pub returns : goal.returns
unfolding correction_of of_bits
returns c =
    let v = c.floor_scaled in
    c.low32.ensures ∙ rw (back w64 v.result v.type_inv, v.ensures, c.f32_to_f64-x.ensures)
