use lib.Ieee.{of_bits}
use mir.Facts.{to_z-of_z}
use Rattle.decoder_record_q15.proofs.Held.{held}
use Rattle.decoder_record_q15.proofs.pll_q15.StereoPllQ15.lock_level.Goals as goal

pub returns : goal.returns
unfolding of_bits
returns c = let s = c.args.self in rw (c.i64_to_f64.ensures, to_z-of_z (held s c.struct_told-1.given).level)
