-- `test_words::words::word_f64` meets its contract. Assumes nothing.
use mathlib.Core.Path.{refl}
use lib.Ieee.{binary64}
use Rattle.rounding.proofs.Own.{not_nan}
use Rattle.test_words.proofs.Floats.{nan_word}
use Rattle.test_words.proofs.words.word_f64.Goals as goal

pub returns-then-x : goal.returns-then-x
returns-then-x c = nan_word binary64 c.args.x c.if-x.true

pub float_to_bits-result : goal.float_to_bits-result
float_to_bits-result c = not_nan c.args.x c.if-x.false

pub returns : goal.returns
returns c = refl
