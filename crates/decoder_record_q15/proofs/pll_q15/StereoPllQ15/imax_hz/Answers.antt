use mathlib.Core.Path.{refl}
use lib.Ieee.{of_bits, round}
use Rattle.decoder_record_q15.proofs.pll_q15.StereoPllQ15.imax_hz.Goals as goal

pub returns : goal.returns
unfolding of_bits round
returns c = refl
