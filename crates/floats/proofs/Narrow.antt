-- An f64 at binary32, from its bits. D and E are the digits and the exponent's field of its pattern b. Assumes
-- nothing.
use Rattle.std.proofs.Common.{◌≡◌, ℕ, ◌+◌, ◌-◌, ◌*◌, ◌/◌, ◌%◌, ◌^◌, ◌<◌, ◌≤◌, min, Bool, true, false, cond, not, T, leb, ◌⊎◌, sym, refl, ap, ◌∙◌, subst, inl, inr, le_trans, le_of_eq, lt_of_lt_of_le, arith, lit≤, pow_pos, pow_mono, pow-add, leb-false, leb-true}
use lib.Ieee.{Float, nan, inf, fin, Format, binary32, binary64, up, down, round, fits, is_nan, of_bits, to_bits, top, nan_bits, ne}
use lib.Ieee.Bits.{of_bits-to_bits, to_bits-lt, nan_bits_is}
use lib.Ieee.Compare.{differs_from_itself}
use lib.Ieee.Fits.{down_pos, nan-fits, inf-fits, round-fits}
use lib.Ieee.Exact.{HasValue}
use lib.Ieee.Scale.{round_same}
use lib.Ieee.Nearest.{closest}
use Rattle.rounding.specs.Cut.{halfEven, cut_by}
use Rattle.rounding.specs.Pattern.{field, digits}
use Rattle.rounding.proofs.Cut.{cut_closest}
use Rattle.rounding.proofs.Round.{closest_le}
use Rattle.rounding.proofs.Pattern.{sig_is, decode, rounded_bits, inf_of_field, finite_of_field, round_no_nan, to_bits_signed}
use Rattle.floats.specs.Floats.{to_format}
use Rattle.cuts.proofs.Digits.{digits_lt}

-- ---- `narrow`: the pattern of the nearest f32, without a sign
abbrev nearest32 : ℕ → ℕ
nearest32 b = to_bits binary32 (round binary32 false (digits binary64 b * 2 ^ (field binary64 b - 1)) (2 ^ 1074))

module _ (b : ℕ) where
  abbrev D : ℕ
  D = digits binary64 b

  abbrev E : ℕ
  E = field binary64 b

  -- cut at the place sh, in the binade k of binary32
  module _ (k sh r : ℕ) (far : 29 ≤ sh) (e : r ≡ cut_by halfEven false D (2 ^ sh)) where
    is_closest : r ≡ closest D (2 ^ sh)
    is_closest = e ∙ cut_closest false D (2 ^ sh) (pow_pos sh)

    below : D < 2 ^ (24 + sh)
    below = lt_of_lt_of_le (digits_lt b) (pow_mono {i = 53} {j = 24 + sh} (omega arith))

    -- what is kept is at most 2^24, which is a carry into the exponent's field
    pub kept_le : r ≤ 16777216
    kept_le = rw is_closest (closest_le D (2 ^ sh) 16777216 (pow_pos sh) (lt_of_lt_of_le below (le_of_eq (pow-add 2 24 sh))))

    narrow_at : 149 + (E - 1) + sh ≡ 1074 + k → (k ≡ 0) ⊎ (2 ^ (23 + sh) ≤ D) → min (k * 8388608 + r) 2139095040 ≡ nearest32 b
    narrow_at g n = sym (rounded_bits binary32 false D (E - 1) 1074 k sh g below n ∙ rw (← is_closest) (omega arith))

  pub narrow_low : (r : ℕ) → E < 897 → r ≡ cut_by halfEven false D (2 ^ (1074 - (E - 1) - 149)) → r ≡ nearest32 b
  narrow_low r h e =
      let sh = 1074 - (E - 1) - 149 in
      let far : 29 ≤ sh = omega arith in
      omega (arith, kept_le 0 sh r far e, narrow_at 0 sh r far e (omega arith) (inl refl))

  pub narrow_high : (r : ℕ) → 897 ≤ E → r ≡ cut_by halfEven false D (2 ^ 29) → min ((E - 897) * 8388608 + r) 2139095040 ≡ nearest32 b
  narrow_high r h e = narrow_at (E - 897) 29 r (lit≤ tt) e (omega arith) (inr (le_trans (first (b % 4503599627370496)) (le_of_eq (sym (sig_is E (b % 4503599627370496) (omega arith))))))
    where
      first : (t : ℕ) → 4503599627370496 ≤ 4503599627370496 + t
      first t = omega arith

-- ---- `f64_to_f32`
pub to_format_at : (f : Format) (x : Float) (s : Bool) (a c : ℕ) → 0 < c → HasValue x s a c → to_format f x ≡ round f s a c
unfolding to_format
to_format_at f nan s a c C v = absurd v
to_format_at f (inf t) s a c C v = absurd v
to_format_at f (fin t m e) s a c C v = ap (λ (z : Bool). round f z (m * up e) (down e)) v.0 ∙ round_same f s (m * up e) (down e) a c (down_pos e) C v.1

pub to_format_fits : (f : Format) (x : Float) → T (fits f (to_format f x))
unfolding to_format
to_format_fits f nan = nan-fits f
to_format_fits f (inf s) = inf-fits f s
to_format_fits f (fin s m e) = round-fits f s (m * up e) (down e)

to_format_no_nan : (f : Format) (x : Float) → T (not (is_nan x)) → T (not (is_nan (to_format f x)))
unfolding to_format is_nan
to_format_no_nan f nan h = h
to_format_no_nan f (inf s) h = h
to_format_no_nan f (fin s m e) h = round_no_nan f s (m * up e) (down e)

-- the sign, as the code moves it
sign_is : (b : ℕ) → b < 18446744073709551616 → b / 9223372036854775808 * 2147483648 ≡ cond (leb 9223372036854775808 b) 2147483648 0
sign_is b h = by (leb 9223372036854775808 b) refl
  where
    by : (t : Bool) → leb 9223372036854775808 b ≡ t → b / 9223372036854775808 * 2147483648 ≡ cond t 2147483648 0
    by true e = omega (arith, leb-true 9223372036854775808 b e)
    by false e = omega (arith, leb-false 9223372036854775808 b e)

module _ (x : Float) (held : T (fits binary64 x)) (real : T (not (is_nan x))) where
  abbrev pat : ℕ
  pat = to_bits binary64 x

  -- the sign and the pattern of the size are the pattern of the nearest f32
  module _ (n : ℕ) (o : field binary64 pat ≡ 2047 → ⊥) (e : n ≡ nearest32 pat) where
    narrow_bits : pat / 9223372036854775808 * 2147483648 + n ≡ to_bits binary32 (to_format binary32 x)
    narrow_bits =
        let s = leb (top binary64) pat in
        let a = digits binary64 pat * 2 ^ (field binary64 pat - 1) in
        ap (λ (z : ℕ). z + n) (sign_is pat (to_bits-lt binary64 x held))
        ∙ ap (λ (z : ℕ). cond s 2147483648 0 + z) e
        ∙ sym (to_bits_signed binary32 s a (2 ^ 1074))
        ∙ ap (to_bits binary32) (sym (to_format_at binary32 x s a (2 ^ 1074) (pow_pos 1074) (decode binary64 x pat held (finite_of_field binary64 x real o) refl)))

    pub narrow_lt : pat / 9223372036854775808 * 2147483648 + n < 4294967296
    narrow_lt = rw narrow_bits (to_bits-lt binary32 (to_format binary32 x) (to_format_fits binary32 x))

    pub narrow_finite : of_bits binary32 (pat / 9223372036854775808 * 2147483648 + n) ≡ to_format binary32 x
    narrow_finite = ap (of_bits binary32) narrow_bits ∙ of_bits-to_bits binary32 (to_format binary32 x) (to_format_fits binary32 x)

  inf_at : (s : Bool) → of_bits binary32 (cond s 2147483648 0 + 2139095040) ≡ to_format binary32 (inf s)
  unfolding to_format of_bits
  inf_at true = refl
  inf_at false = refl

  pub narrow_inf : field binary64 pat ≡ 2047 → of_bits binary32 (pat / 9223372036854775808 * 2147483648 + 2139095040) ≡ to_format binary32 x
  narrow_inf o =
      ap (λ (z : ℕ). of_bits binary32 (z + 2139095040)) (sign_is pat (to_bits-lt binary64 x held))
      ∙ inf_at (leb (top binary64) pat)
      ∙ ap (to_format binary32) (sym (inf_of_field binary64 x pat held real refl o))

  pub no_nan_bits : (n : ℕ) → of_bits binary32 n ≡ to_format binary32 x → T (not (nan_bits binary32 n))
  no_nan_bits n e = subst (λ (z : Bool). T (not z)) (sym (nan_bits_is binary32 n ∙ ap is_nan e)) (to_format_no_nan binary32 x real)

pub narrow_nan : (x : Float) → ne x x ≡ true → nan ≡ to_format binary32 x
unfolding to_format
narrow_nan x h = ap (to_format binary32) (sym (differs_from_itself x (subst T (sym h) tt)))
