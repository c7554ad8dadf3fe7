use mir.Facts.{to_z-of_z}
use Rattle.c_numbers.proofs.pescrondilu_i64_to_f64.Goals as goal

pub returns : goal.returns
returns c = rw (to_z-of_z c.ranges.n) at c.i64_to_f64.ensures
