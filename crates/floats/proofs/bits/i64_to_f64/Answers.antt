use Rattle.std.proofs.Common.{◌≡◌, nat_abs, ap, ◌∙◌, to_z-of_z, rules}
use Rattle.floats.proofs.Ints.{signed_plain, signed_minus}
use Rattle.floats.proofs.bits.i64_to_f64.Goals.{After-size_of}
use Rattle.floats.proofs.bits.i64_to_f64.Goals as goal

sized : (c : After-size_of) → c.size_of.result ≡ nat_abs c.args.n
sized c = c.size_of.ensures ∙ ap nat_abs (to_z-of_z c.ranges.n)

pub returns-then-n-ge0 : goal.returns-then-n-ge0
returns-then-n-ge0 c = let b = c.before in signed_plain (to_z-of_z b.ranges.n) c.if-n-ge0.true (sized b.before) b.nearest_u64-m.ensures

pub returns-else-n-ge0 : goal.returns-else-n-ge0
returns-else-n-ge0 c =
    let b = c.before in
    let f = b.ranges.n in
    signed_minus f (to_z-of_z f) c.if-n-ge0.false (sized b.before) b.nearest_u64-m.ensures
