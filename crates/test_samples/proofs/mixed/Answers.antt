-- `test_samples::mixed` meets its contract. Assumes nothing.
use mathlib.Core.Path.{refl}
use Rattle.test_samples.specs.Samples.{mixed_of}
use Rattle.test_samples.proofs.mixed.Goals as goal

pub returns : goal.returns
unfolding mixed_of
returns c = refl
