-- A product with the gain and the sample first: it is the gain times the other product, and fits where that one
-- does. Assumes nothing.
use Prim.Native.Nat.{ℕ, zero, suc, ◌+◌, ◌*◌, ◌^◌, ◌≤◌, ◌<◌}
use mathlib.Core.Path.{◌≡◌, refl, sym, ap, ◌∙◌}
use mathlib.Core.Bool.{true, false≢true}
use native.Mathlib.Nat.{le_refl, mul_assoc, mul-zero, zero-mul}
use native.Mathlib.Omega.{arith}
use lib.IntN.{ℤ, pos, negsuc, neg_ℤ, nat_abs, ◌+ℤ◌, ◌*ℤ◌}
use lib.Signed.{le_z}
use mir.Syntax.{w16, w64}
use mir.Val.{SFits, to_z, of_z}
use mir.Facts.{to_z-of_z}
use Rattle.rounding.proofs.Lin.{add_le, mul_le, fits_abs, abs_fits}

-- ---- the product of a gain that is not below 0 may be regrouped
times_neg : (k m : ℕ) → pos k *ℤ neg_ℤ (pos m) ≡ neg_ℤ (pos (k * m))
times_neg k zero = rw (mul-zero k) refl
times_neg k (suc m) = refl

neg_times : (m b : ℕ) → neg_ℤ (pos m) *ℤ pos b ≡ neg_ℤ (pos (m * b))
neg_times zero b = rw (zero-mul b) refl
neg_times (suc m) b = refl

neg_times_neg : (m b : ℕ) → neg_ℤ (pos m) *ℤ negsuc b ≡ pos (m * suc b)
neg_times_neg zero b = rw (zero-mul (suc b)) refl
neg_times_neg (suc m) b = refl

regroup : (k : ℕ) (p x : ℤ) → (pos k *ℤ p) *ℤ x ≡ pos k *ℤ (p *ℤ x)
regroup k (pos a) (pos b) = ap pos (mul_assoc k a b)
regroup k (pos a) (negsuc b) = ap (λ z. neg_ℤ (pos z)) (mul_assoc k a (suc b)) ∙ sym (times_neg k (a * suc b))
regroup k (negsuc a) (pos b) = neg_times (k * suc a) b ∙ ap (λ z. neg_ℤ (pos z)) (mul_assoc k (suc a) b) ∙ sym (times_neg k (suc a * b))
regroup k (negsuc a) (negsuc b) = neg_times_neg (k * suc a) b ∙ ap pos (mul_assoc k (suc a) (suc b))

regrouped : (gain p x : ℤ) → le_z (pos 0) gain ≡ true → (gain *ℤ p) *ℤ x ≡ gain *ℤ (p *ℤ x)
regrouped (pos k) p x h = regroup k p x
regrouped (negsuc k) p x h = absurd (false≢true h)

-- ---- nothing passes an i64, and the sum is the other product's. K, P, X and O are the numbers as they are read
module _ (gain p x offset : ℤ) {K P X O : ℤ} (k : K ≡ gain) (q : P ≡ p) (y : X ≡ x) (o : O ≡ offset)
    (f : SFits w16 p) (h : nat_abs x ≤ 2 ^ 15) (room : nat_abs gain * 2 ^ 30 + nat_abs offset < 2 ^ 63) where
  early_le : nat_abs (gain *ℤ p) ≤ nat_abs gain * 2 ^ 15
  early_le = mul_le gain p (nat_abs gain) (2 ^ 15) (le_refl (nat_abs gain)) (fits_abs f)

  pub early_fits : SFits w64 (K *ℤ P)
  early_fits = rw (k, q) (abs_fits w64 (gain *ℤ p) early_le (omega arith))

  abbrev E : ℤ
  E = to_z w64 (of_z w64 (K *ℤ P))

  early_is : E ≡ gain *ℤ p
  early_is = to_z-of_z early_fits ∙ rw (k, q)

  whole_le : nat_abs ((gain *ℤ p) *ℤ x) ≤ nat_abs gain * 2 ^ 15 * 2 ^ 15
  whole_le = mul_le (gain *ℤ p) x (nat_abs gain * 2 ^ 15) (2 ^ 15) early_le h

  pub whole_fits : SFits w64 (E *ℤ X)
  whole_fits = rw (early_is, y) (abs_fits w64 ((gain *ℤ p) *ℤ x) whole_le (omega arith))

  abbrev W : ℤ
  W = to_z w64 (of_z w64 (E *ℤ X))

  whole_is : W ≡ (gain *ℤ p) *ℤ x
  whole_is = to_z-of_z whole_fits ∙ rw (early_is, y)

  pub sum_fits : SFits w64 (W +ℤ O)
  sum_fits =
      let l = whole_le in
      rw (whole_is, o)
      (abs_fits w64 ((gain *ℤ p) *ℤ x +ℤ offset) {k = nat_abs gain * 2 ^ 30 + nat_abs offset} (omega (arith, add_le ((gain *ℤ p) *ℤ x) offset)) (omega arith))

  pub sum_is : le_z (pos 0) gain ≡ true → to_z w64 (of_z w64 (W +ℤ O)) ≡ gain *ℤ (p *ℤ x) +ℤ offset
  sum_is u = to_z-of_z sum_fits ∙ rw (whole_is, o) (ap (λ z. z +ℤ offset) (regrouped gain p x u))
