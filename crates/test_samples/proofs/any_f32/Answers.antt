-- `test_samples::any_f32` meets its contract. Assumes nothing.
use borrow.Author.Tests.{eq-eqb, ne_eqb}
use Prim.Native.Nat.{◌%◌}
use Rattle.test_samples.specs.Samples.{any_of}
use Rattle.test_samples.proofs.any_f32.Goals as goal

pub returns-then-w-eq0 : goal.returns-then-w-eq0
unfolding any_of
returns-then-w-eq0 c = rw (c.f32_of.ensures, c.mixed-v.ensures, eq-eqb (c.args.w % 8) 0 c.if-w-eq0.true)

pub returns : goal.returns
unfolding any_of
returns c =
    let m = c in
    rw (c.f32_of-2.ensures, c.bounded.ensures, m.mixed-v.ensures, ne_eqb (m.args.w % 8) 0 c.if-w-eq0.false)
