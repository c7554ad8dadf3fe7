use mathlib.Core.Path.{◌∙◌}
use mir.Syntax.{w64}
use lib.Ieee.{of_bits}
use Rattle.rounding.proofs.Lin.{back}
use Rattle.scale.specs.Scaled.{scaled_of}
use Rattle.scale.proofs.scale.floor_scaled.Goals as goal

pub returns : goal.returns
unfolding scaled_of of_bits
returns c = let t = c.floor_to_i64 in back w64 t.result t.type_inv ∙ t.ensures
