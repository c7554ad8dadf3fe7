-- `num::low32` meets its contract. Assumes nothing.
use Rattle.std.proofs.Common.{◌≡◌, ℕ, ◌^◌, ◌<◌, ℤ, pos, ◌-ℤ◌, ◌*ℤ◌, neg_ℤ, lt_of_le_of_lt, arith, lit<, to_z-of_z, w64, SFits, to_z, of_z}
use lib.Signed.{shr_z, mag_shr}
use Rattle.numbers.specs.Integers.{mod_z}
use Rattle.numbers.proofs.Integers.{mod_law, mod_below}
use Rattle.rounding.proofs.Lin.{add_law, up_neg, dn_neg, up_mul, dn_mul, shr_law, fit_in, fit_out, eq_in}
use Rattle.numbers.proofs.fixed.low32.Goals as goal

abbrev m : ℕ
m = 4294967296

module _ (x : ℤ) (f : SFits w64 x) where
  abbrev q : ℤ
  q = shr_z x m

  q-fits : SFits w64 q
  q-fits = record { sfits = lt_of_le_of_lt (mag_shr x m) f.sfits }

  mul-fits : SFits w64 (pos m *ℤ q)
  mul-fits =
      let l = shr_law x m (lit< tt) in
      fit_in w64 (pos m *ℤ q) (omega (arith, fit_out f, up_mul m q, dn_mul m q)) (omega (arith, fit_out f, up_mul m q, dn_mul m q))

  low_is : x -ℤ pos m *ℤ q ≡ pos (mod_z x m)
  low_is =
      eq_in (x -ℤ pos m *ℤ q) (pos (mod_z x m))
      (omega (arith, add_law x (neg_ℤ (pos m *ℤ q)), up_neg (pos m *ℤ q), dn_neg (pos m *ℤ q), up_mul m q, dn_mul m q, mod_law x m (lit< tt)))

  -- the machine's difference
  held : to_z w64 (of_z w64 x) -ℤ to_z w64 (of_z w64 (pos m *ℤ to_z w64 (of_z w64 (shr_z (to_z w64 (of_z w64 x)) m)))) ≡ pos (mod_z x m)
  held = rw (to_z-of_z f, to_z-of_z q-fits, to_z-of_z mul-fits) low_is

  low-lt : mod_z x m < 2 ^ 32
  low-lt = mod_below x m (lit< tt)

  low_fits : SFits w64 (pos (mod_z x m))
  low_fits = let l = low-lt in record { sfits = omega arith }

pub overflow_mul-result : goal.overflow_mul-result
overflow_mul-result c = rw (to_z-of_z c.ranges.x, to_z-of_z (q-fits c.args.x c.ranges.x)) (mul-fits c.args.x c.ranges.x)

pub overflow_sub-result : goal.overflow_sub-result
overflow_sub-result c = rw (held c.args.x c.ranges.x) (low_fits c.args.x c.ranges.x)

pub overflow_cast-result : goal.overflow_cast-result
overflow_cast-result c =
    rw (held c.args.x c.ranges.x, to_z-of_z (low_fits c.args.x c.ranges.x))
    (tt, record { fits = low-lt c.args.x c.ranges.x })

pub returns : goal.returns
returns c = rw (held c.args.x c.ranges.x, to_z-of_z (low_fits c.args.x c.ranges.x))
