-- `test_words::words::word_i32` meets its contract: an i32 is an i64. Assumes nothing.
use borrow.Author.Rules.{rules}
use mathlib.Core.Path.{◌∙◌, ap}
use mir.Syntax.{w64}
use mir.Facts.{sfits_widen}
use Rattle.rounding.proofs.Lin.{widened}
use Rattle.test_words.specs.Words.{word_of}
use Rattle.test_words.proofs.words.word_i32.Goals as goal

pub overflow_cast-x : goal.overflow_cast-x
overflow_cast-x c = search (rules, sfits_widen)

pub returns : goal.returns
returns c = c.word_i64.ensures ∙ ap word_of (widened w64 tt c.ranges.x)
