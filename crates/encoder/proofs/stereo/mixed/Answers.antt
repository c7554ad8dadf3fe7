use Rattle.std.proofs.Common.{refl}
use lib.Ieee.{of_bits}
use Rattle.encoder.proofs.stereo.mixed.Goals as goal

pub returns : goal.returns
unfolding of_bits
returns c = refl
