-- `test_lines::line::has` meets its contract. Assumes nothing.
use borrow.Author.Tests.{lt-ltb, le-ltb}
use Rattle.test_lines.proofs.line.has.Goals as goal

pub returns-then-at-line : goal.returns-then-at-line
returns-then-at-line c = simp (lt-ltb _ _ c.if-at-line.true)

pub returns-else-at-line : goal.returns-else-at-line
returns-else-at-line c = simp (le-ltb _ _ c.if-at-line.false)
