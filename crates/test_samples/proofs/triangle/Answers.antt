-- `test_samples::triangle` meets its contract. Assumes nothing.
use borrow.Author.Tests.{lt-ltb, le-ltb}
use Prim.Native.Nat.{◌%◌}
use mathlib.Core.Path.{◌≡◌}
use native.Mathlib.Omega.{arith}
use lib.IntN.{pos}
use lib.Ieee.{of_bits}
use mir.Syntax.{w64}
use mir.Val.{to_z}
use mir.Facts.{to_z_pos}
use Rattle.test_samples.specs.Samples.{triangle_of}
use Rattle.test_samples.proofs.triangle.Goals.{After-i64_to_f64-x}
use Rattle.test_samples.proofs.triangle.Goals as goal

-- the place, as the i64 that is cast
place : (c : After-i64_to_f64-x) → let k = c.args.i % 4096 in to_z w64 k ≡ pos k
place c = to_z_pos w64 (omega arith)

pub returns-then-k-lt2048 : goal.returns-then-k-lt2048
unfolding triangle_of of_bits
returns-then-k-lt2048 c =
    let b = c.before in
    rw (lt-ltb (b.args.i % 4096) 2048 c.if-k-lt2048.true, b.i64_to_f64-x.ensures, place b)

pub returns-else-k-lt2048 : goal.returns-else-k-lt2048
unfolding triangle_of of_bits
returns-else-k-lt2048 c =
    let b = c.before in
    rw (le-ltb (b.args.i % 4096) 2048 c.if-k-lt2048.false, b.i64_to_f64-x.ensures, place b)
