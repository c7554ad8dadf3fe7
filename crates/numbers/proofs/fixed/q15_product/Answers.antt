use Rattle.std.proofs.Common.{◌*ℤ◌, rules}
use Rattle.numbers.proofs.Integers.{widen, product_fits, cast_held, cast_product}
use Rattle.numbers.proofs.fixed.q15_product.Goals as goal

pub returns : goal.returns
returns c = cast_held ◌*ℤ◌ c.ranges.a c.ranges.b (product_fits _ _ c.ranges.a c.ranges.b)
