-- `test_words::words::f32_of` meets its contract. Assumes nothing.
use lib.Ieee.{binary32}
use Rattle.test_words.proofs.Floats.{nan_bits_lem, not_nan_bits}
use Rattle.test_words.proofs.words.f32_of.Goals as goal

pub returns-then-b-gt2139095040 : goal.returns-then-b-gt2139095040
returns-then-b-gt2139095040 c = rw (← c.u32_of-b.ensures) (nan_bits_lem binary32 c.u32_of-b.result c.if-b-gt2139095040.true)

pub float_from_bits-result : goal.float_from_bits-result
float_from_bits-result c = not_nan_bits binary32 c.u32_of-b.result c.if-b-gt2139095040.false

pub returns : goal.returns
returns c = rw c.u32_of-b.ensures
