use Rattle.std.proofs.Common.{refl, arith, le→leb, rules}
use lib.Ieee.{in_float}
use Rattle.floats.proofs.Ints.{few_zeros, made_lt, made_real, made_is}
use Rattle.floats.proofs.bits.nearest_u64.Goals as goal

pub int_to_float-result : goal.int_to_float-result
unfolding in_float
int_to_float-result c = le→leb c.args.n 9007199254740992 c.if-n-le9007199254740992.true

pub returns-then-n-le9007199254740992 : goal.returns-then-n-le9007199254740992
returns-then-n-le9007199254740992 c = refl

pub overflow_cast-place : goal.overflow_cast-place
overflow_cast-place c = let a = c.before in omega (arith, few_zeros a.args.n c.if-n-le9007199254740992.false a.ranges.n.fits)

pub overflow_sub-place : goal.overflow_sub-place
overflow_sub-place c = let a = c.before in omega (arith, few_zeros a.args.n c.if-n-le9007199254740992.false a.ranges.n.fits)

pub overflow_add-result-2 : goal.overflow_add-result-2
overflow_add-result-2 c = let a = c.before.before in record { fits = made_lt a.args.n c.if-n-le9007199254740992.false a.ranges.n.fits c.cut.result c.cut.ensures }

pub float_from_bits-result : goal.float_from_bits-result
float_from_bits-result c = let a = c.before.before in made_real a.args.n c.if-n-le9007199254740992.false a.ranges.n.fits c.cut.result c.cut.ensures

pub returns : goal.returns
returns c = let a = c.before.before in made_is a.args.n c.if-n-le9007199254740992.false a.ranges.n.fits c.cut.result c.cut.ensures
