use mir.Facts.{to_z-of_z}
use Rattle.c_numbers.proofs.pescrondilu_low32.Goals as goal

pub returns : goal.returns
returns c = rw (to_z-of_z c.ranges.x) at c.low32.ensures
