-- `test_lines::line::digit` meets its contract. Assumes nothing.
use borrow.Author.Tests.{leb-true}
use mathlib.Core.Path.{◌≡◌, refl}
use mathlib.Core.Bool.{Bool, true, false, ◌&&◌}
use lib.Dec.{leb}
use Rattle.test_lines.specs.Columns.{digit_of}
use Rattle.test_lines.proofs.line.digit.Goals as goal

first : (a b : Bool) → (a && b) ≡ true → a ≡ true
first true b e = refl
first false b e = e

pub overflow_sub-result : goal.overflow_sub-result
overflow_sub-result c = leb-true 48 c.args.c (first (leb 48 c.args.c) _ c.if-c.true)

pub returns-then-c : goal.returns-then-c
unfolding digit_of
returns-then-c c = rw c.if-c.true

pub overflow_sub-result-then-c-2 : goal.overflow_sub-result-then-c-2
overflow_sub-result-then-c-2 c = leb-true 97 c.args.c (first (leb 97 c.args.c) _ c.if-c-2.true)

pub returns-then-c-2 : goal.returns-then-c-2
unfolding digit_of
returns-then-c-2 c = rw (c.if-c.false, c.if-c-2.true)

pub returns : goal.returns
unfolding digit_of
returns c = rw (c.if-c.false, c.if-c-2.false)
