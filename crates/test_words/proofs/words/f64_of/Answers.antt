-- `test_words::words::f64_of` meets its contract. Assumes nothing.
use mathlib.Core.Path.{refl}
use lib.Ieee.{binary64}
use Rattle.test_words.proofs.Floats.{nan_bits_lem, not_nan_bits}
use Rattle.test_words.proofs.words.f64_of.Goals as goal

pub returns-then-w-gt9218868437227405312 : goal.returns-then-w-gt9218868437227405312
returns-then-w-gt9218868437227405312 c = nan_bits_lem binary64 c.args.w c.if-w-gt9218868437227405312.true

pub float_from_bits-result : goal.float_from_bits-result
float_from_bits-result c = not_nan_bits binary64 c.args.w c.if-w-gt9218868437227405312.false

pub returns : goal.returns
returns c = refl
