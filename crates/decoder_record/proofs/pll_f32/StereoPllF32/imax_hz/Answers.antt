use mathlib.Core.Path.{refl}
use lib.Ieee.{of_bits, round}
use Rattle.decoder_record.proofs.pll_f32.StereoPllF32.imax_hz.Goals as goal

pub returns : goal.returns
unfolding of_bits round
returns c = refl
