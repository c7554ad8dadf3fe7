use Rattle.std.proofs.Common.{◌≡◌, ◌^◌, false, ◌∙◌, arith, lit≤, rules}
use lib.Ieee.{binary64}
use Rattle.rounding.specs.Cut.{halfEven, cut_by}
use Rattle.rounding.specs.Pattern.{digits}
use Rattle.floats.proofs.Narrow.{narrow_low, narrow_high, kept_le}
use Rattle.floats.proofs.bits.narrow.Goals.{After-cut-2}
use Rattle.floats.proofs.bits.narrow.Goals as goal

pub returns-then-e-lt897 : goal.returns-then-e-lt897
returns-then-e-lt897 c =
    let a = c.before.before.before.before in
    narrow_low a.args.b c.cut.result c.if-e-lt897.true (c.cut.ensures ∙ rw (c.digits_of.ensures, c.place_of.ensures))

-- the digits above the last place of a normal f32
high : (c : After-cut-2) → c.cut-2.result ≡ cut_by halfEven false (digits binary64 c.args.b) (2 ^ 29)
high c = c.cut-2.ensures ∙ rw c.digits_of-2.ensures

pub overflow_add-m : goal.overflow_add-m
overflow_add-m c = let a = c.before.before.before in omega (arith, kept_le a.args.b 0 29 c.cut-2.result (lit≤ tt) (high c), a)

pub returns-then-m-lt2139095040 : goal.returns-then-m-lt2139095040
returns-then-m-lt2139095040 c = let a = c.before.before.before in omega (arith, narrow_high a.args.b c.cut-2.result a.if-e-lt897.false (high c.before))

pub returns-else-m-lt2139095040 : goal.returns-else-m-lt2139095040
returns-else-m-lt2139095040 c = let a = c.before.before.before in omega (arith, narrow_high a.args.b c.cut-2.result a.if-e-lt897.false (high c.before))
