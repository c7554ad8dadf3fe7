-- `test_words::words::word_i64` meets its contract: each arm casts a number that is not below 0, as its test
-- found. Assumes nothing.
use mathlib.Core.Path.{ap}
use mathlib.Core.Bool.{not}
use native.Mathlib.Omega.{arith}
use lib.Dec.{T}
use lib.IntN.{nat_abs, pos}
use lib.Signed.{mag, non_neg}
use Rattle.test_words.proofs.Signed.{casts, reads, at_least_0, below_0, minus_fits, minus_reads, word_plus, word_minus}
use Rattle.test_words.proofs.words.word_i64.Goals.{Else-x-ge0}
use Rattle.test_words.proofs.words.word_i64.Goals as goal

below : (c : Else-x-ge0) → T (not (non_neg c.args.x))
below c = below_0 c.args.x c.ranges.x c.if-x-ge0.false

pub overflow_cast-result : goal.overflow_cast-result
overflow_cast-result c = let a = c.before in casts a.args.x _ a.ranges.x (reads a.args.x a.ranges.x) (at_least_0 a.args.x a.ranges.x c.if-x-ge0.true)

pub overflow_sub-result : goal.overflow_sub-result
overflow_sub-result c = minus_fits c.args.x c.ranges.x (below c)

pub overflow_cast-result-else-x-ge0 : goal.overflow_cast-result-else-x-ge0
overflow_cast-result-else-x-ge0 c = let a = c.before in casts (pos (mag a.args.x)) _ (record { sfits = a.ranges.x.sfits }) (minus_reads a.args.x a.ranges.x (below c)) tt

pub overflow_sub-result-else-x-ge0 : goal.overflow_sub-result-else-x-ge0
overflow_sub-result-else-x-ge0 c = let a = c.before in omega (arith, ap nat_abs (minus_reads a.args.x a.ranges.x (below c)), a.ranges.x.sfits)

pub returns-then-x-ge0 : goal.returns-then-x-ge0
returns-then-x-ge0 c = let a = c.before in rw (reads a.args.x a.ranges.x) (word_plus a.args.x a.ranges.x (at_least_0 a.args.x a.ranges.x c.if-x-ge0.true))

pub returns-else-x-ge0 : goal.returns-else-x-ge0
returns-else-x-ge0 c = let a = c.before in rw (minus_reads a.args.x a.ranges.x (below c)) (word_minus a.args.x a.ranges.x (below c))
