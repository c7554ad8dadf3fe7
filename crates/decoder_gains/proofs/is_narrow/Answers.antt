use lib.Ieee.{of_bits}
use Rattle.decoder_gains.proofs.is_narrow.Goals as goal

pub returns : goal.returns
unfolding of_bits
returns c = rw (c.is_finite_f32.ensures, c.f64_to_f32-y.ensures)
