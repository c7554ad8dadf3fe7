-- `test_samples::bounded` meets its contract. Assumes nothing.
use mathlib.Core.Path.{refl}
use Rattle.test_samples.specs.Samples.{bounded_of}
use Rattle.test_samples.proofs.bounded.Goals as goal

pub returns : goal.returns
unfolding bounded_of
returns c = refl
