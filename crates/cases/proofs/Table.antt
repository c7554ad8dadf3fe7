-- The table holds: each row is worked out. Assumes nothing.
use mathlib.Core.Path.{refl}
use lib.Ieee.{round, add, sub, mul, neg, to_signed}
use Rattle.rounding.specs.Cut.{rest_of, cut_by}
use Rattle.numbers.specs.Integers.{sat16_of, round_shift_of}
use Rattle.floats.specs.Floats.{whole_of}
use Rattle.scale.specs.Scaled.{scaled_of}
use Rattle.answers.specs.Samples.{samples}
use Rattle.lookup.specs.Lookup.{between_q15, cos_q15, cos_f32}
use Rattle.phase.specs.Correction.{correction_of}
use Rattle.matrix.specs.Matrix.{left_q15, right_q15}
use Rattle.encoder.specs.Multiplex.{multiplex_of}
use Rattle.decoder_record_q15.specs.Fit.{fit_q15}
use Rattle.decoder.specs.Machine.{advanced_by, step_of, state_at, run_of, block_of}
use Rattle.decoder_q15.specs.Q15.{level_q15}
use Rattle.merged.specs.Merged.{merged_of}
use Rattle.cases.specs.Cases.{Table, cases}

pub table : Table cases
unfolding between_q15 cos_q15 cos_f32 sat16_of round_shift_of correction_of scaled_of whole_of cut_by rest_of to_signed add sub mul neg round left_q15 right_q15 multiplex_of samples fit_q15 level_q15 advanced_by step_of state_at run_of block_of merged_of
table = (refl, (refl, (refl, (refl, (refl, (refl, (refl, (refl, (refl, (refl, (refl, (refl, (refl, ((refl, refl), ((refl, refl), (refl, (refl, (refl, tt))))))))))))))))))
