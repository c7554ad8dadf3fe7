use Rattle.std.proofs.Common.{◌∙◌, w64}
use lib.Ieee.{of_bits}
use Rattle.rounding.proofs.Lin.{back}
use Rattle.oscillator.specs.Oscillator.{increment_of}
use Rattle.oscillator.proofs.nco.increment_of.Goals as goal

pub returns : goal.returns
unfolding increment_of of_bits
returns c =
    let n = c.f64_to_i64 in
    c.low32.ensures ∙ rw (back w64 n.result n.type_inv, n.ensures, c.half_even_f64-scaled.ensures, c.floor_f64.ensures)
