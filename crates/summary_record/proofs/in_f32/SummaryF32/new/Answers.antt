use lib.Ieee.{of_bits}
use Rattle.summary_record.proofs.in_f32.SummaryF32.new.Goals as goal

pub returns : goal.returns
unfolding of_bits
returns c = rw c.fresh.ensures
