-- `parts_q15::level_after` meets its contract. Each `rw` takes what the machine holds of a number to the
-- number, from the innermost outwards. Assumes nothing.
use lib.IntN.{◌-ℤ◌, ◌*ℤ◌}
use mir.Syntax.{w64}
use mir.Val.{SFits}
use mir.Facts.{to_z-of_z}
use Rattle.numbers.specs.Integers.{round_shift_of}
use Rattle.decoder_q15.specs.Q15.{level_q15}
use Rattle.decoder_q15.proofs.Level.{d_fits, m_fits, next_fits}
use Rattle.decoder_q15.proofs.parts.level_after.Goals as goal

pub overflow_sub-result : goal.overflow_sub-result
overflow_sub-result c = rw (to_z-of_z c.ranges.q, to_z-of_z c.ranges.rounded, c.requires.rounded) ((let it : SFits w64 (c.args.q -ℤ round_shift_of c.args.level 31) = d_fits c.args.beta c.args.level c.args.q c.requires.level c.requires.product in it))

pub overflow_mul-result : goal.overflow_mul-result
overflow_mul-result c = rw (to_z-of_z c.ranges.q, to_z-of_z c.ranges.rounded, c.requires.rounded, to_z-of_z ((let it : SFits w64 (c.args.q -ℤ round_shift_of c.args.level 31) = d_fits c.args.beta c.args.level c.args.q c.requires.level c.requires.product in it)), to_z-of_z c.ranges.beta) ((let it : SFits w64 (c.args.beta *ℤ (c.args.q -ℤ round_shift_of c.args.level 31)) = m_fits c.args.beta c.args.level c.args.q c.requires.level c.requires.product in it))

pub overflow_add-result : goal.overflow_add-result
unfolding level_q15
overflow_add-result c = rw (to_z-of_z c.ranges.q, to_z-of_z c.ranges.rounded, c.requires.rounded, to_z-of_z ((let it : SFits w64 (c.args.q -ℤ round_shift_of c.args.level 31) = d_fits c.args.beta c.args.level c.args.q c.requires.level c.requires.product in it)), to_z-of_z c.ranges.beta, to_z-of_z ((let it : SFits w64 (c.args.beta *ℤ (c.args.q -ℤ round_shift_of c.args.level 31)) = m_fits c.args.beta c.args.level c.args.q c.requires.level c.requires.product in it)), to_z-of_z c.ranges.level) ((let it : SFits w64 (level_q15 c.args.beta c.args.level c.args.q) = next_fits c.args.beta c.args.level c.args.q c.requires.level c.requires.product in it))

pub returns : goal.returns
unfolding level_q15
returns c = rw (to_z-of_z c.ranges.q, to_z-of_z c.ranges.rounded, c.requires.rounded, to_z-of_z ((let it : SFits w64 (c.args.q -ℤ round_shift_of c.args.level 31) = d_fits c.args.beta c.args.level c.args.q c.requires.level c.requires.product in it)), to_z-of_z c.ranges.beta, to_z-of_z ((let it : SFits w64 (c.args.beta *ℤ (c.args.q -ℤ round_shift_of c.args.level 31)) = m_fits c.args.beta c.args.level c.args.q c.requires.level c.requires.product in it)), to_z-of_z c.ranges.level) (to_z-of_z ((let it : SFits w64 (level_q15 c.args.beta c.args.level c.args.q) = next_fits c.args.beta c.args.level c.args.q c.requires.level c.requires.product in it)))
