use mir.Syntax.{w64}
use lib.Ieee.{of_bits, round}
use Rattle.rounding.proofs.Lin.{back}
use Rattle.decoder_gains.specs.Gains.{gains_of}
use Rattle.decoder_gains.proofs.gains_of.Goals as goal

pub returns : goal.returns
unfolding gains_of of_bits round
returns c = let s = c.floor_scaled in rw (c.low32.ensures, back w64 s.result s.type_inv, s.ensures)
