use Rattle.std.proofs.Common.{not, T, sym, subst, arith}
use lib.Ieee.{binary64, fits, is_nan, of_bits, div}
use lib.Ieee.Bits.{to_bits-lt}
use Rattle.rounding.proofs.Own.{not_nan, field_lt}
use Rattle.rounding.proofs.Pattern.{finite_of_field}
use Rattle.floats.proofs.Narrow.{narrow_finite, narrow_lt, narrow_inf, narrow_nan, no_nan_bits}
use Rattle.floats.proofs.bits.f64_to_f32.Goals.{Else-x, Start}
use Rattle.floats.proofs.bits.f64_to_f32.Goals as goal

held : (c : Start) → T (fits binary64 c.args.x)
held c = subst T (sym c.well_formed.0.1) tt

real : (c : Else-x) → T (not (is_nan c.args.x))
real c = not_nan c.args.x c.if-x.false

pub returns-then-x : goal.returns-then-x
unfolding of_bits div
returns-then-x c = narrow_nan c.args.x c.if-x.true

pub float_to_bits-b : goal.float_to_bits-b
float_to_bits-b c = real c

pub overflow_mul-sign : goal.overflow_mul-sign
overflow_mul-sign c = omega (arith, to_bits-lt binary64 c.args.x (held c.before))

pub overflow_add-result : goal.overflow_add-result
overflow_add-result c = omega (arith, to_bits-lt binary64 c.args.x (held c.before.before))

pub overflow_cast-result : goal.overflow_cast-result
overflow_cast-result c = omega (arith, to_bits-lt binary64 c.args.x (held c.before.before))

pub float_from_bits-result : goal.float_from_bits-result
float_from_bits-result c =
    let a = c.before.before in
    no_nan_bits a.args.x (held a) (real c.before) _ (narrow_inf a.args.x (held a) (real c.before) c.if-b-eq2047.true)

pub returns-then-b-eq2047 : goal.returns-then-b-eq2047
returns-then-b-eq2047 c = let a = c.before.before in narrow_inf a.args.x (held a) (real c.before) c.if-b-eq2047.true

pub narrow-requires : goal.narrow-requires
narrow-requires c =
    let a = c.before.before in
    field_lt binary64 a.args.x (held a) (finite_of_field binary64 a.args.x (real c.before) c.if-b-eq2047.false)

pub overflow_add-result-2 : goal.overflow_add-result-2
overflow_add-result-2 c =
    let a = c.before.before.before in
    omega (arith, narrow_lt a.args.x (held a) (real c.before.before) c.narrow.result c.if-b-eq2047.false c.narrow.ensures)

pub overflow_cast-result-2 : goal.overflow_cast-result-2
overflow_cast-result-2 c =
    let a = c.before.before.before in
    record { fits = narrow_lt a.args.x (held a) (real c.before.before) c.narrow.result c.if-b-eq2047.false c.narrow.ensures }

pub float_from_bits-result-2 : goal.float_from_bits-result-2
float_from_bits-result-2 c =
    let a = c.before.before.before in
    let r = real c.before.before in
    no_nan_bits a.args.x (held a) r _ (narrow_finite a.args.x (held a) r c.narrow.result c.if-b-eq2047.false c.narrow.ensures)

pub returns : goal.returns
returns c =
    let a = c.before.before.before in
    narrow_finite a.args.x (held a) (real c.before.before) c.narrow.result c.if-b-eq2047.false c.narrow.ensures
