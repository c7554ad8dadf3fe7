use mathlib.Core.Path.{refl}
use lib.Ieee.{of_bits, round}
use Rattle.verdict.specs.Verdict.{on_air_of}
use Rattle.verdict.proofs.on_air.Goals as goal

pub returns : goal.returns
unfolding on_air_of of_bits round
returns c = refl
