use Rattle.std.proofs.Common.{true, false, not, T, sym, ap, ◌∙◌, subst, w64, rules}
use lib.Ieee.{binary64, fits, is_nan, to_bits, to_signed}
use Rattle.rounding.specs.Cut.{downward}
use Rattle.rounding.proofs.Lin.{back}
use Rattle.rounding.proofs.Own.{not_nan}
use Rattle.floats.proofs.Floats.{whole_nan, whole_big, signed_plain, signed_minus, plain_fits, plain_is, minus_fits, minus_back}
use Rattle.floats.proofs.Ints.{at_nan}
use Rattle.floats.proofs.bits.floor_to_i64.Goals.{Else-x, Start}
use Rattle.floats.proofs.bits.floor_to_i64.Goals as goal

held : (c : Start) → T (fits binary64 c.args.x)
held c = subst T (sym c.well_formed.0.1) tt

real : (c : Else-x) → T (not (is_nan c.args.x))
real c = not_nan c.args.x c.if-x.false

pub returns-then-x : goal.returns-then-x
returns-then-x c = at_nan c.args.x c.if-x.true ∙ ap (to_signed 63) (whole_nan downward c.args.x c.if-x.true)

pub float_to_bits-b : goal.float_to_bits-b
float_to_bits-b c = real c

pub returns-then-b-ge1075 : goal.returns-then-b-ge1075
returns-then-b-ge1075 c =
    let d = c.before.before in
    let t = c.f64_to_i64 in
    back w64 t.result t.type_inv ∙ t.ensures ∙ ap (to_signed 63) (whole_big downward d.args.x (held d.before) (real d) c.if-b-ge1075.true)

pub overflow_cast-result : goal.overflow_cast-result
overflow_cast-result c = let x = c.args.x in plain_fits downward true (to_bits binary64 x) c.whole_size.result c.whole_size.ensures

pub overflow_sub-result : goal.overflow_sub-result
overflow_sub-result c = let x = c.args.x in minus_fits downward true (to_bits binary64 x) c.whole_size.result c.whole_size.ensures

pub returns-then-b-ge-SIGN : goal.returns-then-b-ge-SIGN
returns-then-b-ge-SIGN c =
    let e = c.before.before in
    let x = e.args.x in
    minus_back downward true (to_bits binary64 x) c.whole_size.result c.whole_size.ensures
    ∙ signed_minus downward x (held e.before.before) (real e.before) e.if-b-ge1075.false c.if-b-ge-SIGN.true c.whole_size.result c.whole_size.ensures

pub overflow_cast-result-2 : goal.overflow_cast-result-2
overflow_cast-result-2 c = let x = c.args.x in plain_fits downward false (to_bits binary64 x) c.whole_size-2.result c.whole_size-2.ensures

pub returns : goal.returns
returns c =
    let e = c.before.before in
    let x = e.args.x in
    plain_is downward false (to_bits binary64 x) c.whole_size-2.result c.whole_size-2.ensures
    ∙ signed_plain downward x (held e.before.before) (real e.before) e.if-b-ge1075.false c.if-b-ge-SIGN.false c.whole_size-2.result c.whole_size-2.ensures
