use lib.Ieee.{binary64, of_bits}
use Rattle.rounding.proofs.Finite.{sub_self}
use Rattle.finite.proofs.finite.is_finite_f64.Goals as goal

pub returns : goal.returns
unfolding of_bits
returns c = sub_self binary64 c.args.x
