-- A whole number as the nearest f64, from its bits, and an f64 as a whole number at the ends. Assumes nothing.
use Rattle.std.proofs.Common.{◌≡◌, ℕ, suc, ◌+◌, ◌-◌, ◌*◌, ◌/◌, ◌^◌, ◌<◌, ◌≤◌, min, Bool, true, false, not, ◌||◌, T, ℤ, pos, negsuc, ◌-ℤ◌, neg_ℤ, nat_abs, sym, refl, ap, ◌∙◌, subst, inr, true≢false, le_trans, le_of_eq, lt_of_lt_of_le, mul-pos, lt_of_not-le, le-div_iff_mul-le, mul-one, not-le_of_lt, add-one, arith, lit<, pow_pos, pow_mono, pow-add, to_z-of_z, w64, Fits, SFits, to_z, of_z, ltb-false, lt-ltb}
use mathlib.Core.Bool.{false≢true}
use lib.Count.{count_leading_zeros, leading_top}
use lib.Signed.{le_z, non_neg, mag}
use lib.Ieee.{Float, nan, inf, fin, binary64, up, down, round, is_nan, of_bits, to_bits, nan_bits, of_int, to_signed, neg, le, lt, ne}
use lib.Ieee.Compare.{differs_from_itself}
use lib.Ieee.Bits.{to_bits-lt, nan_bits_is}
use lib.Ieee.Fits.{round-fits, down_pos}
use lib.Ieee.Scale.{round_same}
use lib.Ieee.Nearest.{closest}
use Rattle.rounding.specs.Cut.{halfEven, cut_by}
use Rattle.rounding.proofs.Cut.{cut_closest}
use Rattle.rounding.proofs.Lin.{fits_abs, le_no, eq_in, sub_law'}
use Rattle.rounding.proofs.Round.{closest_le}
use Rattle.rounding.proofs.Pattern.{encode, rounded_bits, round_no_nan, round_neg}

-- n is above 2^53, so that it has more digits than an f64 keeps
module _ (n : ℕ) (big : 9007199254740992 < n) (fit : n < 18446744073709551616) where
  abbrev z : ℕ
  z = count_leading_zeros 64 n

  abbrev place : ℕ
  place = 11 - z

  size : (j : ℕ) × (z + suc j ≡ 64) × (2 ^ j ≤ n) × (n < 2 ^ suc j)
  size = leading_top 64 n (omega arith) fit

  pub few_zeros : z < 11
  few_zeros = go size.0 size.1 (lt_of_not-le (λ (h : suc size.0 ≤ 53). not-le_of_lt big (lower h)))
    where
      lower : suc size.0 ≤ 53 → n ≤ 9007199254740992
      lower h = let l = lt_of_lt_of_le size.3 (pow_mono {i = suc size.0} {j = 53} h) in omega arith

      go : (j : ℕ) → z + suc j ≡ 64 → 53 < suc j → z < 11
      go j e h = omega arith

  ends : suc size.0 ≡ 53 + place
  ends = let e = size.1 in let l = few_zeros in omega arith

  below : n < 2 ^ (53 + place)
  below = lt_of_lt_of_le size.3 (le_of_eq (ap (λ (k : ℕ). 2 ^ k) ends))

  above : 2 ^ (52 + place) ≤ n
  above = le_trans (le_of_eq (ap (λ (k : ℕ). 2 ^ k) {x = 52 + place} {y = size.0} (let e = ends in omega arith))) size.2

  module _ (r : ℕ) (e : r ≡ cut_by halfEven false n (2 ^ place)) where
    abbrev made : ℕ
    made = (1074 + place) * 4503599627370496 + r

    is_closest : closest n (2 ^ place) ≡ r
    is_closest = sym (e ∙ cut_closest false n (2 ^ place) (pow_pos place))

    small : r ≤ 9007199254740992
    small = rw (← is_closest) (closest_le n (2 ^ place) 9007199254740992 (pow_pos place) (lt_of_lt_of_le below (le_of_eq (pow-add 2 53 place))))

    bits_are : to_bits binary64 (round binary64 false n 1) ≡ made
    bits_are =
        ap (to_bits binary64) (round_same binary64 false n 1 (n * 2 ^ 0) (2 ^ 0) (lit< tt) (lit< tt) (sym (mul-one (n * 1))))
        ∙ rounded_bits binary64 false n 0 0 (1074 + place) place (omega arith) below (inr above)
        ∙ rw is_closest (let s = small in let z = few_zeros in omega arith)

    pub made_lt : made < 18446744073709551616
    made_lt = rw (← bits_are) (to_bits-lt binary64 (round binary64 false n 1) (round-fits binary64 false n 1))

    pub made_is : of_bits binary64 made ≡ of_int binary64 (pos n)
    unfolding of_int
    made_is = encode binary64 false n 1 made bits_are

    pub made_real : T (not (nan_bits binary64 made))
    made_real = subst (λ (t : Bool). T (not t)) (sym (nan_bits_is binary64 made ∙ ap is_nan (encode binary64 false n 1 made bits_are))) (round_no_nan binary64 false n 1)

-- ---- the size and the sign of an i64. Y is n as the machine reads it back from its bits, which the test `n
-- >= 0` is of
not_minus : {n Y : ℤ} → Y ≡ n → le_z (pos 0) Y ≡ true → T (non_neg n)
not_minus {n} e h = go n (rw e at h)
  where
    go : (n : ℤ) → le_z (pos 0) n ≡ true → T (non_neg n)
    go (pos n) h = tt
    go (negsuc n) h = absurd (false≢true h)

pub size_plain : {n Y : ℤ} → SFits w64 n → Y ≡ n → le_z (pos 0) Y ≡ true → T (non_neg Y) × Fits w64 (nat_abs Y)
size_plain {n} f e h = rw e (not_minus e h, omega (arith, fits_abs f))

-- -1 - n, which cannot pass the largest i64 as -n can
module _ {n Y : ℤ} (f : SFits w64 n) (e : Y ≡ n) (h : le_z (pos 0) Y ≡ false) where
  minus : negsuc 0 -ℤ Y ≡ pos (mag n)
  minus = rw e (go n (rw e at h))
    where
      go : (n : ℤ) → le_z (pos 0) n ≡ false → negsuc 0 -ℤ n ≡ pos (mag n)
      go (pos n) h = absurd (let l = le_no (pos 0) (pos n) h in omega arith)
      go (negsuc n) h = eq_in (negsuc 0 -ℤ negsuc n) (pos n) (omega (arith, sub_law' (negsuc 0) (negsuc n)))

  pub minus_fits : SFits w64 (negsuc 0 -ℤ Y)
  minus_fits = rw minus (record { sfits = f.sfits })

  minus_read : to_z w64 (of_z w64 (negsuc 0 -ℤ Y)) ≡ pos (mag n)
  minus_read = to_z-of_z minus_fits ∙ minus

  pub minus_cast : T (non_neg (to_z w64 (of_z w64 (negsuc 0 -ℤ Y)))) × Fits w64 (nat_abs (to_z w64 (of_z w64 (negsuc 0 -ℤ Y))))
  minus_cast = let g = f.sfits in rw minus_read (tt, omega arith)

  pub minus_size : nat_abs (to_z w64 (of_z w64 (negsuc 0 -ℤ Y))) + 1 ≡ nat_abs n
  minus_size = rw minus_read (go n (rw e at h))
    where
      go : (n : ℤ) → le_z (pos 0) n ≡ false → mag n + 1 ≡ nat_abs n
      go (pos n) h = absurd (let l = le_no (pos 0) (pos n) h in omega arith)
      go (negsuc n) h = add-one n

  pub signed_minus : {m : ℕ} {x : Float} → m ≡ nat_abs n → x ≡ of_int binary64 (pos m) → neg x ≡ of_int binary64 n
  unfolding of_int
  signed_minus {m} {x} g k = go n (rw e at h) g
    where
      go : (n : ℤ) → le_z (pos 0) n ≡ false → m ≡ nat_abs n → neg x ≡ of_int binary64 n
      go (pos n) h g = absurd (let l = le_no (pos 0) (pos n) h in omega arith)
      go (negsuc n) h g = rw (k, g) (round_neg binary64 (suc n) 1)

pub signed_plain : {n Y : ℤ} {m : ℕ} {x : Float} → Y ≡ n → le_z (pos 0) Y ≡ true → m ≡ nat_abs n → x ≡ of_int binary64 (pos m) → x ≡ of_int binary64 n
signed_plain {n} {Y} {m} {x} e h g k = go n (rw e at h) g
  where
    go : (n : ℤ) → le_z (pos 0) n ≡ true → m ≡ nat_abs n → x ≡ of_int binary64 n
    go (pos n) h g = k ∙ ap (λ (z : ℕ). of_int binary64 (pos z)) g
    go (negsuc n) h g = absurd (false≢true h)

-- ---- an f64 beyond the ends of an i64
abbrev pub end : Bool → Float
end s = fin s 1 (pos 63)

-- one half of an `or` that failed
or_left : (a b : Bool) → a || b ≡ false → a ≡ false
or_left true b h = absurd (true≢false h)
or_left false b h = refl

weight : (e : ℤ) → 0 < 9223372036854775808 * down e
weight e = mul-pos (lit< {m = 0} {n = 9223372036854775808} tt) (down_pos e)

past : (m : ℕ) (e : ℤ) → 9223372036854775808 * down e ≤ m * up e * 1 → 9223372036854775808 ≤ m * up e / down e
past m e h = (le-div_iff_mul-le (down_pos e)).1 (le_trans h (le_of_eq (mul-one (m * up e))))

pub at_top : (x : Float) → le (end true) x ≡ true → lt x (end false) ≡ false → pos 9223372036854775807 ≡ to_signed 63 x
unfolding le lt to_signed
at_top nan a b = absurd (false≢true a)
at_top (inf true) a b = absurd (false≢true a)
at_top (inf false) a b = refl
at_top (fin true m e) a b = absurd (true≢false (sym (lt-ltb 0 (m * up e * 1 + 9223372036854775808 * down e) (omega (arith, weight e))) ∙ b))
at_top (fin false m e) a b = ap pos (omega (arith, past m e (ltb-false (m * up e * 1) (9223372036854775808 * down e) b)))

pub at_bottom : (x : Float) → le (end true) x ≡ false → ne x x ≡ false → negsuc 9223372036854775807 ≡ to_signed 63 x
unfolding le lt ne to_signed
at_bottom nan a b = absurd (true≢false b)
at_bottom (inf true) a b = refl
at_bottom (inf false) a b = absurd (true≢false a)
at_bottom (fin false m e) a b = absurd (true≢false (sym (lt-ltb 0 (9223372036854775808 * down e + m * up e * 1) (omega (arith, weight e))) ∙ or_left _ _ a))
at_bottom (fin true m e) a b = ap (λ (z : ℕ). neg_ℤ (pos z)) {x = 9223372036854775808} {y = min (m * up e / down e) 9223372036854775808} (omega (arith, past m e (ltb-false (m * up e * 1) (9223372036854775808 * down e) (or_left _ _ a))))

pub at_nan : (x : Float) → ne x x ≡ true → pos 0 ≡ to_signed 63 x
unfolding to_signed
at_nan x h = ap (to_signed 63) (sym (differs_from_itself x (subst T (sym h) tt)))
