use lib.Ieee.{binary32, of_bits}
use Rattle.rounding.proofs.Finite.{sub_self}
use Rattle.finite.proofs.finite.is_finite_f32.Goals as goal

pub returns : goal.returns
unfolding of_bits
returns c = sub_self binary32 c.args.x
