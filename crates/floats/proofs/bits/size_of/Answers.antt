use Rattle.std.proofs.Common.{nat_abs, ap, arith, to_z-of_z}
use Rattle.rounding.proofs.Lin.{fits_abs}
use Rattle.floats.proofs.Ints.{size_plain, minus_fits, minus_cast, minus_size}
use Rattle.floats.proofs.bits.size_of.Goals as goal

pub overflow_cast-result : goal.overflow_cast-result
overflow_cast-result c = let f = c.ranges.n in size_plain f (to_z-of_z f) c.if-n-ge0.true

pub overflow_sub-result : goal.overflow_sub-result
overflow_sub-result c = let f = c.ranges.n in minus_fits f (to_z-of_z f) c.if-n-ge0.false

pub overflow_cast-result-else-n-ge0 : goal.overflow_cast-result-else-n-ge0
overflow_cast-result-else-n-ge0 c = let f = c.ranges.n in minus_cast f (to_z-of_z f) c.if-n-ge0.false

pub overflow_add-result : goal.overflow_add-result
overflow_add-result c = let f = c.ranges.n in omega (arith, minus_size f (to_z-of_z f) c.if-n-ge0.false, fits_abs f)

pub returns-then-n-ge0 : goal.returns-then-n-ge0
returns-then-n-ge0 c = ap nat_abs (to_z-of_z c.ranges.n)

pub returns-else-n-ge0 : goal.returns-else-n-ge0
returns-else-n-ge0 c = let f = c.ranges.n in minus_size f (to_z-of_z f) c.if-n-ge0.false
