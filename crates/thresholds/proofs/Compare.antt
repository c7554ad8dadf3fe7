-- What a comparison of floats says of their fractions, as a linear fact of the parts of either sign. Assumes
-- nothing.
use mathlib.Core.Path.{◌≡◌}
use Prim.Native.Nat.{ℕ, ◌+◌, ◌≤◌, ◌<◌}
use native.Mathlib.Nat.{le_of_lt, le_of_eq}
use native.Mathlib.Omega.{arith}
use mathlib.Core.Bool.{Bool, true, false, ◌&&◌, ◌||◌}
use lib.Dec.{T, eqb, ltb→lt, eqb→eq}
use lib.Ieee.{below, level}
use lib.Ieee.Fits.{and_l, and_r}
use Rattle.rounding.proofs.Value.{part}

-- ±a below ±b, ±a equal to ±b, and either
pub lt_out : (s : Bool) (a : ℕ) (t : Bool) (b : ℕ) → T (below s a t b) → part false s a + part true t b < part false t b + part true s a
lt_out false a false b h = omega (arith, ltb→lt a b h)
lt_out false a true b h = absurd h
lt_out true a false b h = omega (arith, ltb→lt 0 (a + b) h)
lt_out true a true b h = omega (arith, ltb→lt b a h)

both_zero : (a b : ℕ) → T (eqb a b && eqb a 0) → a + b ≡ 0
both_zero a b h = omega (arith, eqb→eq a b (and_l (eqb a b) (eqb a 0) h), eqb→eq a 0 (and_r (eqb a b) (eqb a 0) h))

eq_out : (s : Bool) (a : ℕ) (t : Bool) (b : ℕ) → T (level s a t b) → part false s a + part true t b ≡ part false t b + part true s a
eq_out false a false b h = omega (arith, eqb→eq a b (and_l (eqb a b) true h))
eq_out false a true b h = omega (arith, both_zero a b h)
eq_out true a false b h = omega (arith, both_zero a b h)
eq_out true a true b h = omega (arith, eqb→eq a b (and_l (eqb a b) true h))

either : {m n : ℕ} (x y : Bool) → (T x → m < n) → (T y → m ≡ n) → T (x || y) → m ≤ n
either true y f g h = le_of_lt (f tt)
either false y f g h = le_of_eq (g h)

pub le_out : (s : Bool) (a : ℕ) (t : Bool) (b : ℕ) → T (below s a t b || level s a t b)
    → part false s a + part true t b ≤ part false t b + part true s a
le_out s a t b h = either (below s a t b) (level s a t b) (lt_out s a t b) (eq_out s a t b) h
