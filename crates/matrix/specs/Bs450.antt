-- What the matrix is for: it gives back left and right. Source: ITU-R BS.450, which sends M = (L + R)/2 and,
-- on the subcarrier, S = (L - R)/2; the demodulator multiplies by the subcarrier's sine, which leaves half of
-- S. Definitions only.
use Rattle.std.specs.Prelude.{ℕ, ◌*◌, ◌<◌, cond, ◌≡◌, T, ℤ, pos, neg_ℤ, ◌+ℤ◌, ◌-ℤ◌, ◌*ℤ◌, Float}
use Rattle.std.specs.Float.{nan, inf, fin, binary32}
use Rattle.std.specs.Float.Ieee.{up, down, fits, add}
use Rattle.numbers.specs.Integers.{sat16_of}
use Rattle.matrix.specs.Matrix.{left_f32, right_f32, left_q15, right_q15}

-- m is M and h is half of S, of l and r, in whole numbers
pub record Sent (l r m h : ℤ) : Type 0 where
  pub sum : pos 2 *ℤ m ≡ l +ℤ r
  pub difference : pos 4 *ℤ h ≡ l -ℤ r

-- Q15: left and right, limited
abbrev pub RestoredQ15 : Type 0
RestoredQ15 = (l r m h : ℤ) → Sent l r m h → (left_q15 m h ≡ sat16_of l) × (right_q15 m h ≡ sat16_of r)

-- x is exactly z / c
abbrev pub Is : ℕ → Float → ℤ → Type 0
Is c nan z = ⊥
Is c (inf s) z = ⊥
Is c (fin s m e) z = cond s (neg_ℤ (pos (m * up e))) (pos (m * up e)) *ℤ pos c ≡ z *ℤ pos (down e)

-- f32, where h + h is exact: then so are the other two operations, left and right being f32
abbrev pub RestoredF32 : Type 0
RestoredF32 =
    (c : ℕ) → 0 < c → (l r m h : Float) (L R M H : ℤ) → Sent L R M H
    → T (fits binary32 l) → Is c l L → T (fits binary32 r) → Is c r R → Is c m M → Is c (add binary32 h h) (pos 2 *ℤ H)
    → Is c (left_f32 m h) L × Is c (right_f32 m h) R
