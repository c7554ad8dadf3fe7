use lib.Ieee.{of_bits}
use Rattle.decoder_parts.proofs.in_f32.demodulated.Goals as goal

pub returns-then-on : goal.returns-then-on
returns-then-on c = rw c.if-on.true

pub returns-else-on : goal.returns-else-on
unfolding of_bits
returns-else-on c = rw c.if-on.false
