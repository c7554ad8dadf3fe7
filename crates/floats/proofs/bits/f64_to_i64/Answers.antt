use Rattle.std.proofs.Common.{T, sym, ◌∙◌, subst, w64}
use lib.Ieee.{of_bits, neg}
use Rattle.rounding.proofs.Lin.{back}
use Rattle.floats.proofs.Ints.{at_top, at_bottom, at_nan}
use Rattle.floats.proofs.bits.f64_to_i64.Goals as goal

pub truncating_f64_to_i64-requires : goal.truncating_f64_to_i64-requires
unfolding of_bits neg
truncating_f64_to_i64-requires c = record { lower_bound = subst T (sym c.if-x.true) tt; upper_bound = subst T (sym c.if-x-2.true) tt }

pub returns-then-x-2 : goal.returns-then-x-2
returns-then-x-2 c = let t = c.truncating_f64_to_i64 in back w64 t.result t.type_inv ∙ t.ensures

pub returns-then-x : goal.returns-then-x
unfolding of_bits neg
returns-then-x c = at_top c.args.x c.if-x.true c.if-x-2.false

pub returns-then-x-3 : goal.returns-then-x-3
returns-then-x-3 c = at_nan c.args.x c.if-x-3.true

pub returns : goal.returns
unfolding of_bits neg
returns c = at_bottom c.args.x c.if-x.false c.if-x-3.false
