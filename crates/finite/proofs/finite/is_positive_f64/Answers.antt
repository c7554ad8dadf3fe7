use Rattle.std.proofs.Common.{rules}
use lib.Ieee.{of_bits}
use Rattle.finite.proofs.finite.is_positive_f64.Goals as goal

pub returns : goal.returns
unfolding of_bits
returns c = rw c.is_finite_f64.ensures
