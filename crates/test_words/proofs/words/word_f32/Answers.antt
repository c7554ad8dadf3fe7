-- `test_words::words::word_f32` meets its contract. Assumes nothing.
use lib.Ieee.{binary32}
use Rattle.rounding.proofs.Own.{not_nan}
use Rattle.test_words.proofs.Floats.{nan_word}
use Rattle.test_words.proofs.words.word_f32.Goals as goal

pub returns-then-x : goal.returns-then-x
returns-then-x c = nan_word binary32 c.args.x c.if-x.true

pub float_to_bits-x : goal.float_to_bits-x
float_to_bits-x c = not_nan c.args.x c.if-x.false

pub returns : goal.returns
returns c = c.word_u32.ensures
