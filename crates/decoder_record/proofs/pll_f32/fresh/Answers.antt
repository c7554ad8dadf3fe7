use lib.Ieee.{of_bits}
use Rattle.decoder_record.proofs.pll_f32.fresh.Goals as goal

pub returns : goal.returns
unfolding of_bits
returns c = rw (c.f64_to_f32-6.ensures, c.f64_to_f32-5.ensures, c.f64_to_f32-4.ensures, c.f64_to_f32-3.ensures, c.f64_to_f32-2.ensures, c.f64_to_f32.ensures)
