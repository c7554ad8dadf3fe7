use Rattle.std.proofs.Common.{not, T, sym, subst, rules}
use lib.Ieee.{binary64, fits, is_nan, to_bits}
use Rattle.rounding.proofs.Own.{not_nan}
use Rattle.floats.proofs.Floats.{whole_nan, whole_big, whole_plain, whole_minus, whole_cast}
use Rattle.floats.proofs.bits.whole.Goals.{Else-x, Start}
use Rattle.floats.proofs.bits.whole.Goals as goal

held : (c : Start) → T (fits binary64 c.args.x)
held c = subst T (sym c.well_formed.1.0.1) tt

real : (c : Else-x) → T (not (is_nan c.args.x))
real c = not_nan c.args.x c.if-x.false

pub returns-then-x : goal.returns-then-x
returns-then-x c = whole_nan _ c.args.x c.if-x.true

pub float_to_bits-b : goal.float_to_bits-b
float_to_bits-b c = real c

pub returns-then-b-ge1075 : goal.returns-then-b-ge1075
returns-then-b-ge1075 c = let d = c.before in whole_big _ d.args.x (held d.before) (real d) c.if-b-ge1075.true

pub int_to_float-result : goal.int_to_float-result
int_to_float-result c =
    let e = c.before.before.before in
    whole_cast _ _ (to_bits binary64 e.args.x) c.whole_size.result c.whole_size.ensures

pub returns-then-b-lt-SIGN : goal.returns-then-b-lt-SIGN
returns-then-b-lt-SIGN c =
    let e = c.before.before.before in
    whole_plain _ e.args.x (held e.before.before) (real e.before) c.whole_size.result e.if-b-ge1075.false c.if-b-lt-SIGN.true c.whole_size.ensures

pub int_to_float-result-2 : goal.int_to_float-result-2
int_to_float-result-2 c =
    let e = c.before.before.before in
    whole_cast _ _ (to_bits binary64 e.args.x) c.whole_size-2.result c.whole_size-2.ensures

pub returns : goal.returns
returns c =
    let e = c.before.before.before in
    whole_minus _ e.args.x (held e.before.before) (real e.before) c.whole_size-2.result e.if-b-ge1075.false c.if-b-lt-SIGN.false c.whole_size-2.ensures
