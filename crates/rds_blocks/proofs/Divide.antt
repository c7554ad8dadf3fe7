-- The division's loop, step by step. Assumes nothing.
use Prim.Native.Nat.{ℕ, zero, suc, ◌+◌, ◌-◌, ◌*◌, ◌%◌, ◌^◌, ◌<◌, ◌≤◌}
use native.Mathlib.Omega.{arith}
use mathlib.Core.Path.{◌≡◌}
use mathlib.Core.Bool.{true, false, cond}
use lib.Dec.{lit<}
use lib.Bits.{bit_xor}
use lib.Pow.{shl_exact}
use Rattle.rds_blocks.specs.Division.{bit, generator, lessened, divided_from}

first : (n x : ℕ) → 0 < n → divided_from n x ≡ divided_from (n - 1) (lessened (n - 1) x)
unfolding divided_from
first zero x h = elim h [ ]
first (suc n) x h = let e : suc n - 1 ≡ n = omega arith in rw e

module _ (n x : ℕ) (some : 0 < n) where
  -- one step of the n
  step : divided_from n x ≡ divided_from (n - 1) (cond (bit (n - 1 + 10) x) (bit_xor x (generator * 2 ^ (n - 1))) x)
  step = first n x some

  -- .. by what its test gives; the shifted generator fits 32 bits
  pub taken : n ≤ 22 → bit (n - 1 + 10) x ≡ true → divided_from (n - 1) (bit_xor x (generator * 2 ^ (n - 1) % 2 ^ 32)) ≡ divided_from n x
  taken h t = rw (step, t, shl_exact 11 (n - 1) 32 (lit< tt) (omega arith))

  pub passed : bit (n - 1 + 10) x ≡ false → divided_from (n - 1) x ≡ divided_from n x
  passed t = rw (step, t)

pub finished : (n x : ℕ) → n ≤ 0 → divided_from n x ≡ x
unfolding divided_from
finished n x h = let e : n ≡ 0 = omega arith in rw e
