-- What the matrix is for: left and right come back, limited in Q15, exact in f32. Assumes nothing.
use Prim.Native.Nat.{ℕ, ◌+◌, ◌*◌}
use mathlib.Core.Path.{◌≡◌, ap}
use native.Mathlib.Omega.{arith}
use lib.IntN.{ℤ, pos, ◌+ℤ◌, ◌-ℤ◌, ◌*ℤ◌}
use lib.Ieee.{Float, nan, inf, fin, binary32, add}
use Rattle.rounding.proofs.Lin.{up, dn, add_law, sub_law', up_mul, dn_mul, eq_in}
use Rattle.rounding.proofs.Exact.{Worth, worth_in, worth_out, add_exact, sub_exact}
use Rattle.numbers.specs.Integers.{sat16_of}
use Rattle.matrix.specs.Matrix.{left_f32, right_f32, left_q15, right_q15}
use Rattle.matrix.specs.Bs450.{Sent, RestoredQ15, Is, RestoredF32}

-- before any limit or rounding
module _ (l r m h : ℤ) (s : Sent l r m h) where
  sums : 2 * up m + (dn l + dn r) ≡ up l + up r + 2 * dn m
  sums = omega (arith, ap up s.sum, ap dn s.sum, add_law l r, up_mul 2 m, dn_mul 2 m)

  -- of 2h, which is what the matrix adds
  differences : 2 * up (pos 2 *ℤ h) + (dn l + up r) ≡ up l + dn r + 2 * dn (pos 2 *ℤ h)
  differences = omega (arith, ap up s.difference, ap dn s.difference, sub_law' l r, up_mul 2 h, dn_mul 2 h, up_mul 4 h, dn_mul 4 h)

  left_back : m +ℤ pos 2 *ℤ h ≡ l
  left_back = eq_in (m +ℤ pos 2 *ℤ h) l (omega (arith, sums, differences, add_law m (pos 2 *ℤ h)))

  right_back : m -ℤ pos 2 *ℤ h ≡ r
  right_back = eq_in (m -ℤ pos 2 *ℤ h) r (omega (arith, sums, differences, sub_law' m (pos 2 *ℤ h)))

pub restored_q15 : RestoredQ15
unfolding left_q15 right_q15
restored_q15 l r m h s = (ap sat16_of (left_back l r m h s), ap sat16_of (right_back l r m h s))

-- `Is` in the words of the laws on sums
is_worth : (c : ℕ) (x : Float) (z : ℤ) → Is c x z → Worth x z c
is_worth c nan z i = absurd i
is_worth c (inf s) z i = absurd i
is_worth c (fin s m e) z i = worth_in s m e z c i

worth_is : (c : ℕ) (x : Float) (z : ℤ) → Worth x z c → Is c x z
worth_is c nan z w = absurd w.value
worth_is c (inf s) z w = absurd w.value
worth_is c (fin s m e) z w = worth_out s m e z c w

pub restored_f32 : RestoredF32
restored_f32 c C l r m h L R M H s lf li rf ri mi di =
    let u = is_worth c m M mi in
    let v = is_worth c (add binary32 h h) (pos 2 *ℤ H) di in (
      worth_is c (left_f32 m h) L (add_exact binary32 c C l L lf (is_worth c l L li) u v (left_back L R M H s)),
      worth_is c (right_f32 m h) R (sub_exact binary32 c C r R rf (is_worth c r R ri) u v (right_back L R M H s)),
    )
