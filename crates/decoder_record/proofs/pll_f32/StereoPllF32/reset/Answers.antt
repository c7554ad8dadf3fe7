use mathlib.Core.Path.{refl}
use lib.Ieee.{of_bits}
use Rattle.decoder_record.proofs.pll_f32.StereoPllF32.reset.Goals as goal

pub returns : goal.returns
unfolding of_bits
returns c = refl
