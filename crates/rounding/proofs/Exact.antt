-- A sum is exact where a float of the format has its exact value. `Worth x z c` says that x is finite and is z
-- / c, of either sign. Over the format. Assumes nothing.
use Prim.Native.Nat.{ℕ, zero, suc, ◌+◌, ◌*◌, ◌<◌}
use mathlib.Core.Path.{◌≡◌, refl, sym, ap, ◌∙◌, subst}
use mathlib.Core.Bool.{Bool, true, false, not, cond}
use native.Mathlib.Nat.{zero-lt-suc, zero-mul, mul_assoc, mul-pos}
use native.Mathlib.Omega.{arith}
use lib.Dec.{T}
use lib.IntN.{ℤ, pos, negsuc, neg_ℤ, nat_abs, ◌+ℤ◌, ◌-ℤ◌, ◌*ℤ◌, neg_ℤ-neg_ℤ}
use lib.Ieee.{Float, nan, inf, fin, Format, up as over, down, round, sum, add, neg, sub, fits}
use lib.Ieee.Fits.{down_pos}
use lib.Ieee.Exact.{HasValue}
use lib.Ieee.Scale.{finite}
use Rattle.rounding.proofs.Lin.{up, dn, add_law, up_neg, dn_neg, abs_mul, abs_neg_ℤ, eq_in}
use Rattle.rounding.proofs.Value.{part, sum_ways, sum_same, add_at, neg_value}
use Rattle.rounding.proofs.Own.{own_exact}
use Rattle.rounding.proofs.Finite.{round_zero}

-- ±a
abbrev pub signed : Bool → ℕ → ℤ
signed s a = cond s (neg_ℤ (pos a)) (pos a)

-- -0 and 0 are both worth 0
pub record Worth (x : Float) (z : ℤ) (c : ℕ) : Type 0 where
  pub minus : Bool
  pub size : ℕ
  pub value : HasValue x minus size c
  pub is : signed minus size ≡ z

-- ---- ±a
parts : (s : Bool) (a : ℕ) → (up (signed s a) ≡ part false s a) × (dn (signed s a) ≡ part true s a)
parts true a = omega (arith, up_neg (pos a), dn_neg (pos a))
parts false a = omega arith

size_is : (s : Bool) (a : ℕ) → nat_abs (signed s a) ≡ a
size_is true a = abs_neg_ℤ (pos a)
size_is false a = refl

turned : (s : Bool) (a : ℕ) → signed (not s) a ≡ neg_ℤ (signed s a)
turned true a = sym (neg_ℤ-neg_ℤ (pos a))
turned false a = refl

scaled : (s : Bool) (a k : ℕ) → signed s a *ℤ pos k ≡ signed s (a * k)
scaled true zero k = rw (zero-mul k)
scaled true (suc a) k = refl
scaled false a k = refl

-- a sum, by the parts of either sign
total : (q s t : Bool) (k a b : ℕ) → k + (part (not q) s a + part (not q) t b) ≡ part q s a + part q t b → signed q k ≡ signed s a +ℤ signed t b
total true s t k a b h = eq_in (signed true k) (signed s a +ℤ signed t b) (omega (arith, add_law (signed s a) (signed t b), parts true k, parts s a, parts t b))
total false s t k a b h = eq_in (signed false k) (signed s a +ℤ signed t b) (omega (arith, add_law (signed s a) (signed t b), parts s a, parts t b))

-- only 0 has two signs
one_sign : (q r : Bool) (k n : ℕ) → signed q (suc k) ≡ signed r n → (r ≡ q) × (n ≡ suc k)
one_sign true true k n e = (refl, omega (arith, ap dn e, parts true n))
one_sign true false k n e = absurd (omega (arith, ap dn e))
one_sign false true k n e = absurd (omega (arith, ap up e, parts true n))
one_sign false false k n e = (refl, omega (arith, ap up e))

-- so a multiple of z has z's sign
sign_is : (s : Bool) (z : ℤ) (k d : ℕ) → 0 < d → signed s k ≡ z *ℤ pos d → signed s (nat_abs z) ≡ z
sign_is true (pos zero) k d D e = refl
sign_is true (pos (suc n)) k d D e = absurd (omega (arith, ap up e, parts true k, mul-pos (zero-lt-suc n) D))
sign_is true (negsuc n) k d D e = refl
sign_is false (pos n) k d D e = refl
sign_is false (negsuc n) k d D e = absurd (omega (arith, ap dn e, parts true (suc n * d), mul-pos (zero-lt-suc n) D))

-- ---- what a finite float is worth, by one equation
pub worth_in : (s : Bool) (m : ℕ) (e z : ℤ) (c : ℕ) → signed s (m * over e) *ℤ pos c ≡ z *ℤ pos (down e) → Worth (fin s m e) z c
worth_in s m e z c h =
    let k = m * over e * c in
    let i : signed s k ≡ z *ℤ pos (down e) = sym (scaled s (m * over e) c) ∙ h in
    record {
      minus = s;
      size = nat_abs z;
      value = (refl, sym (size_is s k) ∙ ap nat_abs i ∙ abs_mul z (pos (down e)));
      is = sign_is s z k (down e) (down_pos e) i;
    }

pub worth_out : (s : Bool) (m : ℕ) (e z : ℤ) (c : ℕ) → Worth (fin s m e) z c → signed s (m * over e) *ℤ pos c ≡ z *ℤ pos (down e)
worth_out s m e z c w =
    scaled s (m * over e) c ∙ ap (signed s) (w.value).1 ∙ sym (scaled s w.size (down e))
    ∙ ap (λ (t : Bool). signed t w.size *ℤ pos (down e)) (w.value).0
    ∙ ap (λ (y : ℤ). y *ℤ pos (down e)) w.is

pub neg_worth : {x : Float} {z : ℤ} {c : ℕ} → Worth x z c → Worth (neg x) (neg_ℤ z) c
neg_worth {x} {z} {c} w =
    record { minus = not w.minus; size = w.size; value = neg_value x w.minus w.size c w.value; is = turned w.minus w.size ∙ ap neg_ℤ w.is }

-- ---- sums
value_finite : (x : Float) (s : Bool) (a c : ℕ) → HasValue x s a c → T (finite x)
value_finite nan s a c v = v
value_finite (inf t) s a c v = v
value_finite (fin t m e) s a c v = tt

-- l is the float of the format that has the exact value
module _ (f : Format) (c : ℕ) (C : 0 < c) (l : Float) (L : ℤ) (held : T (fits f l)) (w : Worth l L c) where
  round_held : (q : Bool) (k : ℕ) → signed q k ≡ L → HasValue (round f q k c) q k c
  round_held q zero e = round_zero f q c C
  round_held q (suc k) e =
      let o = one_sign q w.minus k w.size (e ∙ sym w.is) in
      own_exact f l q (suc k) c C held (value_finite l w.minus w.size c w.value) (rw (← o.0, ← o.1) w.value)

  pub add_exact : {x y : Float} {X Y : ℤ} → Worth x X c → Worth y Y c → X +ℤ Y ≡ L → Worth (add f x y) L c
  add_exact {x} {y} u v e =
      subst (λ (z : Float). Worth z L c) (sym at)
      (sum_ways (λ (z : Float). Worth z L c) f u.minus u.size v.minus v.size c
      (λ q k d. let i : signed q k ≡ L = total q u.minus v.minus k u.size v.size d ∙ cc (u.is, v.is, e) in record { minus = q; size = k; value = round_held q k i; is = i }))
    where
      at : add f x y ≡ sum f u.minus u.size v.minus v.size c
      at =
          add_at f x y u.minus v.minus u.size c v.size c C C u.value v.value
          ∙ sum_same f u.minus (u.size * c) v.minus (v.size * c) (c * c) u.size v.size c (mul-pos C C) C (mul_assoc u.size c c) (mul_assoc v.size c c)

  pub sub_exact : {x y : Float} {X Y : ℤ} → Worth x X c → Worth y Y c → X -ℤ Y ≡ L → Worth (sub f x y) L c
  unfolding sub
  sub_exact u v e = add_exact u (neg_worth v) e
