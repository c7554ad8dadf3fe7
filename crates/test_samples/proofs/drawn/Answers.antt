-- `test_samples::drawn` meets its contract. Assumes nothing.
use Prim.Native.Nat.{ℕ, ◌+◌, ◌%◌, ◌^◌}
use mathlib.Core.Path.{◌≡◌, ◌∙◌}
use native.Mathlib.Omega.{arith}
use Rattle.test_samples.specs.Samples.{mixed_of, drawn_of}
use Rattle.test_samples.proofs.drawn.Goals as goal

-- the sum of both modulo 2^32, which is all that `mixed_of` reads
mixed-low : (a i : ℕ) → mixed_of (a % 2 ^ 32 + i % 2 ^ 32) ≡ mixed_of (a % 2 ^ 32 + i)
unfolding mixed_of
mixed-low a i =
    let e : (a % 2 ^ 32 + i % 2 ^ 32) % 2 ^ 32 ≡ (a % 2 ^ 32 + i) % 2 ^ 32 = omega arith in
    rw e

pub returns : goal.returns
unfolding drawn_of
returns c = let a = c.args in c.mixed.ensures ∙ mixed-low a.spec a.i
