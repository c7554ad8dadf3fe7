-- Laws of the float definitions, by any fraction that a value equals (`HasValue x s a c`: x is finite, has the
-- sign s and is a / c). Assumes nothing.
use Rattle.std.proofs.Common.{◌≡◌, ℕ, zero, suc, ◌+◌, ◌-◌, ◌*◌, ◌/◌, ◌%◌, ◌^◌, ◌<◌, ◌≤◌, Bool, true, false, cond, not, T, leb, pos, ◌-ℤ◌, neg_ℤ, sym, refl, ap, ◌∙◌, subst, mod-lt, mul_assoc, mul-one, div-le_self, arith, lit<, le→leb, pow_pos, pow_mono, pow-add, to_z-of_z, w64, SFits, to_z, of_z, le-leb}
use native.Mathlib.Nat.{div-lt_self}
use borrow.Author.Tests.{lt-leb}
use lib.Ieee.{Float, nan, inf, fin, binary64, up, down, ne, neg, of_int, round, fits, is_nan, in_float, to_bits, to_signed, top}
use lib.Ieee.Compare.{differs_from_itself}
use lib.Ieee.Fits.{down_pos}
use lib.Ieee.Exact.{HasValue}
use lib.Ieee.Scale.{finite}
use mir.Facts.{to_z_pos}
use Rattle.rounding.specs.Cut.{Rule, cut_by}
use Rattle.rounding.specs.Pattern.{field, sig, digits}
use Rattle.rounding.proofs.Cut.{cut_same, cut_whole, cut_le}
use Rattle.rounding.proofs.Round.{value_same, exact_at}
use Rattle.rounding.proofs.Pattern.{sig_is, sig_lt, decode, finite_of_field, round_neg}
use Rattle.rounding.proofs.Own.{round_own}
use Rattle.rounding.proofs.Value.{to_signed_whole}
use Rattle.rounding.proofs.Lin.{up_neg, dn_neg, sub_law', eq_in, abs_fits, abs_neg_ℤ}
use Rattle.floats.specs.Floats.{whole_of}
use Rattle.cuts.proofs.Digits.{digits_lt}

halved : (d u : ℕ) → d < 2 ^ 53 → 2 ≤ u → d / u + 1 < 2 ^ 53
halved zero u h k = omega (arith, div-le_self 0 u)
halved (suc d) u h k = omega (arith, div-lt_self {n = suc d} {k = u} (omega arith) (omega arith))

-- ---- x as a whole number
pub whole_at : (r : Rule) (x : Float) (s : Bool) (a c : ℕ) → 0 < c → HasValue x s a c → whole_of r x ≡ round binary64 s (cut_by r s a c) 1
unfolding whole_of
whole_at r nan s a c C v = absurd v
whole_at r (inf t) s a c C v = absurd v
whole_at r (fin t m e) s a c C v =
    ap (λ (z : Bool). round binary64 z (cut_by r z (m * up e) (down e)) 1) v.0
    ∙ ap (λ (z : ℕ). round binary64 s z 1) (cut_same r s (m * up e) (down e) a c (down_pos e) C v.1)

-- a whole number stays
pub whole_same : (r : Rule) (x : Float) (s : Bool) (n : ℕ) → T (fits binary64 x) → T (finite x) → HasValue x s n 1 → x ≡ whole_of r x
whole_same r x s n h k v = sym (whole_at r x s n 1 (lit< tt) v ∙ ap (λ (z : ℕ). round binary64 s z 1) (cut_whole r s n) ∙ round_own binary64 x s n 1 (lit< tt) h k v)

pub whole_nan : (r : Rule) (x : Float) → ne x x ≡ true → x ≡ whole_of r x
unfolding whole_of
whole_nan r x h = let e = differs_from_itself x (subst T (sym h) tt) in e ∙ ap (whole_of r) (sym e)

-- by the pattern b of x
module _ (r : Rule) (x : Float) (held : T (fits binary64 x)) (real : T (not (is_nan x))) where
  abbrev b : ℕ
  b = to_bits binary64 x

  abbrev s : Bool
  s = leb (top binary64) b

  abbrev E : ℕ
  E = field binary64 b

  value : T (finite x) → HasValue x s (digits binary64 b * 2 ^ (E - 1)) (2 ^ 1074)
  value k = decode binary64 x b held k refl

  -- from 2^52 up no digit stands below 1
  pub whole_big : 1075 ≤ E → x ≡ whole_of r x
  whole_big h = go x refl
    where
      split : (E : ℕ) → 1075 ≤ E → E - 1 ≡ E - 1075 + 1074
      split E h = omega arith

      go : (y : Float) → x ≡ y → x ≡ whole_of r x
      go nan e = absurd (unfold is_nan in subst (λ (z : Float). T (not (is_nan z))) e real)
      go (inf t) e = e ∙ unfold whole_of in ap (whole_of r) (sym e)
      go (fin t m d) e =
          let k : T (finite x) = subst (λ (z : Float). T (finite z)) (sym e) tt in
          let D = digits binary64 b in
          whole_same r x s (D * 2 ^ (E - 1075)) held k
          (value_same x s (D * 2 ^ (E - 1)) (2 ^ 1074) (D * 2 ^ (E - 1075)) 1 (pow_pos 1074)
          (mul_assoc D (2 ^ (E - 1075)) (2 ^ 1074) ∙ ap (λ (z : ℕ). D * z) (sym (pow-add 2 (E - 1075) 1074) ∙ ap (λ (z : ℕ). 2 ^ z) (sym (split E h))) ∙ sym (mul-one (D * 2 ^ (E - 1)))) (value k))

  -- below it the digits are cut at the place of 1
  whole_cut : E < 1075 → whole_of r x ≡ round binary64 s (cut_by r s (digits binary64 b) (2 ^ (1074 - (E - 1)))) 1
  whole_cut h =
      let D = digits binary64 b in
      let k = finite_of_field binary64 x real (λ e. omega arith) in
      whole_at r x s (D * 2 ^ (E - 1)) (2 ^ 1074) (pow_pos 1074) (value k)
      ∙ ap (λ (z : ℕ). round binary64 s z 1)
      (cut_same r s (D * 2 ^ (E - 1)) (2 ^ 1074) D (2 ^ (1074 - (E - 1))) (pow_pos 1074) (pow_pos (1074 - (E - 1)))
      (mul_assoc D (2 ^ (E - 1)) (2 ^ (1074 - (E - 1))) ∙ ap (λ (z : ℕ). D * z) (sym (pow-add 2 (E - 1) (1074 - (E - 1))) ∙ ap (λ (z : ℕ). 2 ^ z) (place E h))))
    where
      place : (E : ℕ) → E < 1075 → E - 1 + (1074 - (E - 1)) ≡ 1074
      place E h = omega arith

  module _ (n : ℕ) (h : E < 1075) where
    pub whole_plain : b < 9223372036854775808 → n ≡ cut_by r false (digits binary64 b) (2 ^ (1074 - (E - 1))) → of_int binary64 (pos n) ≡ whole_of r x
    unfolding of_int
    whole_plain l e = rw e (sym (rw (lt-leb (top binary64) b l) at (whole_cut h)))

    pub whole_minus : 9223372036854775808 ≤ b → n ≡ cut_by r true (digits binary64 b) (2 ^ (1074 - (E - 1))) → neg (of_int binary64 (pos n)) ≡ whole_of r x
    unfolding of_int
    whole_minus l e = rw (e, round_neg binary64 (cut_by r true (digits binary64 b) (2 ^ (1074 - (E - 1)))) 1) (sym (rw (le-leb (top binary64) b l) at (whole_cut h)))

  -- as an i64, which holds the cut digits
  module _ (h : E < 1075) where
    size_lt : (t : Bool) → cut_by r t (digits binary64 b) (2 ^ (1074 - (E - 1))) < 2 ^ 53
    size_lt t = let l = cut_le r t (digits binary64 b) (2 ^ (1074 - (E - 1))) in omega (arith, halved (digits binary64 b) (2 ^ (1074 - (E - 1))) (digits_lt b) (some E h))
      where
        some : (E : ℕ) → E < 1075 → 2 ^ 1 ≤ 2 ^ (1074 - (E - 1))
        some E h = pow_mono {i = 1} {j = 1074 - (E - 1)} (omega arith)

    signed_by : (t : Bool) → s ≡ t → (n : ℕ) → n ≡ cut_by r t (digits binary64 b) (2 ^ (1074 - (E - 1))) → cond t (neg_ℤ (pos n)) (pos n) ≡ to_signed 63 (whole_of r x)
    signed_by t k n e =
        let l : n < 2 ^ 53 = rw e (size_lt t) in
        sym (ap (to_signed 63) (rw k at (whole_cut h)) ∙ rw (← e) (to_signed_whole 63 (round binary64 t n 1) t n (omega arith) (exact_at binary64 t n l)))

    pub signed_plain : b < 9223372036854775808 → (n : ℕ) → n ≡ cut_by r false (digits binary64 b) (2 ^ (1074 - (E - 1))) → pos n ≡ to_signed 63 (whole_of r x)
    signed_plain l = signed_by false (lt-leb (top binary64) b l)

    pub signed_minus : 9223372036854775808 ≤ b → (n : ℕ) → n ≡ cut_by r true (digits binary64 b) (2 ^ (1074 - (E - 1))) → neg_ℤ (pos n) ≡ to_signed 63 (whole_of r x)
    signed_minus l = signed_by true (le-leb (top binary64) b l)

-- the cut digits are at most 2^53, where `as` is defined
size_le : (r : Rule) (s : Bool) (b n : ℕ) → n ≡ cut_by r s (digits binary64 b) (2 ^ (1074 - (field binary64 b - 1))) → n ≤ 2 ^ 53
size_le r s b n e = let u = 2 ^ (1074 - (field binary64 b - 1)) in omega (arith, cut_le r s (digits binary64 b) u, div-le_self (digits binary64 b) u, digits_lt b)

pub whole_cast : (r : Rule) (s : Bool) (b n : ℕ) → n ≡ cut_by r s (digits binary64 b) (2 ^ (1074 - (field binary64 b - 1))) → T (in_float binary64 (pos n))
unfolding in_float
whole_cast r s b n e = le→leb n 9007199254740992 (size_le r s b n e)

-- .. in an i64, and with the other sign
module _ (r : Rule) (s : Bool) (b n : ℕ) (e : n ≡ cut_by r s (digits binary64 b) (2 ^ (1074 - (field binary64 b - 1)))) where
  pub plain_fits : SFits w64 (pos n)
  plain_fits = record { sfits = omega (arith, size_le r s b n e) }

  pub plain_is : to_z w64 n ≡ pos n
  plain_is = to_z_pos w64 plain_fits.sfits

  minus_is : to_z w64 0 -ℤ to_z w64 n ≡ neg_ℤ (pos n)
  minus_is = rw plain_is (eq_in (pos 0 -ℤ pos n) (neg_ℤ (pos n)) (omega (arith, sub_law' (pos 0) (pos n), up_neg (pos n), dn_neg (pos n))))

  pub minus_fits : SFits w64 (to_z w64 0 -ℤ to_z w64 n)
  minus_fits = rw minus_is (abs_fits w64 (neg_ℤ (pos n)) {k = 2 ^ 53} (rw (abs_neg_ℤ (pos n)) (size_le r s b n e)) (lit< tt))

  pub minus_back : to_z w64 (of_z w64 (to_z w64 0 -ℤ to_z w64 n)) ≡ neg_ℤ (pos n)
  minus_back = to_z-of_z minus_fits ∙ minus_is
