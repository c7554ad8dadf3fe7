-- A float from its bit pattern and back, over the format. Assumes nothing.
use mathlib.Core.Path.{◌≡◌, refl, sym, ap, ◌∙◌, subst}
use mathlib.Core.Logic.{◌⊎◌, inl, inr}
use Prim.Native.Nat.{ℕ, zero, suc, ◌+◌, ◌-◌, ◌*◌, ◌/◌, ◌%◌, ◌^◌, ◌≤◌, ◌<◌, min}
use native.Mathlib.Nat.{add_assoc, add-mul, one-mul, zero-mul, lt_of_not-le, not-le_of_lt, lt_of_mul-lt-mul_left, le_of_mul-le-mul_right, mul-le-mul_left, mul-lt-mul_of_pos_left, pow-succ', le_refl, le_trans, le_of_eq, lt_of_lt_of_le, lt_of_le_of_lt, eq-or-lt_of_le, mul_assoc, mul-le-mul_right}
use native.Mathlib.Numerals.{add-one-le}
use native.Mathlib.Omega.{arith}
use mathlib.Core.Bool.{Bool, true, false, not, cond}
use lib.Dec.{T, leb, ltb, eqb, ltb→lt, nltb→le, lit≤}
use lib.Pow.{pow-add, pow_pos, pow_mono, pow-lt}
use lib.Ieee.{neg, size, Float, nan, inf, fin, Format, binary32, binary64, prec, emax, low, odd, units, round, fits, is_nan, of_bits, of_fields, to_bits, hid, top, ones}
use lib.Ieee.Bits.{is_true, of_bits-to_bits}
use lib.Ieee.Fits.{core, eq→eqb, round-fits}
use lib.Ieee.Exact.{HasValue, odd_sign, units_val}
use lib.Ieee.Scale.{finite, overflow}
use lib.Ieee.Nearest.{closest}
use Rattle.rounding.specs.Pattern.{field, sig, digits}
use Rattle.rounding.proofs.Round.{Normal, to_bits_at, shift_round, kept_in}

-- what a finite value is, by the fields of its pattern
fields_value : (f : Format) (s : Bool) (x t : ℕ) → T (finite (of_fields f s x t)) → HasValue (of_fields f s x t) s (sig f x t * 2 ^ (x - 1)) (2 ^ low f)
unfolding of_fields
fields_value f s zero t h = odd_sign (prec f) s t 0 (low f)
fields_value f s (suc x) t h = go (eqb (suc x) (ones f)) (eqb t 0) h
  where
    back : (x : ℕ) → x ≡ suc x - 1
    back x = omega arith

    go : (a b : Bool) → T (finite (cond a (cond b (inf s) nan) (odd (prec f) s (hid f + t) x (low f)))) → HasValue (cond a (cond b (inf s) nan) (odd (prec f) s (hid f + t) x (low f))) s ((hid f + t) * 2 ^ (suc x - 1)) (2 ^ low f)
    go true true u = absurd u
    go true false u = absurd u
    go false b u = subst (λ (z : ℕ). HasValue (odd (prec f) s (hid f + t) x (low f)) s ((hid f + t) * 2 ^ z) (2 ^ low f)) (back x) (odd_sign (prec f) s (hid f + t) x (low f))

of_bits_is : (f : Format) (b : ℕ) → of_bits f b ≡ of_fields f (leb (top f) b) (field f b) (b % hid f)
unfolding of_bits
of_bits_is f b = refl

pub decode : (f : Format) (x : Float) (b : ℕ) → T (fits f x) → T (finite x) → to_bits f x ≡ b → HasValue x (leb (top f) b) (digits f b * 2 ^ (field f b - 1)) (2 ^ low f)
decode f x b h k e =
    let p : of_fields f (leb (top f) b) (field f b) (b % hid f) ≡ x = sym (of_bits_is f b) ∙ ap (λ (z : ℕ). of_bits f z) (sym e) ∙ of_bits-to_bits f x h in
    subst (λ (z : Float). HasValue z (leb (top f) b) (digits f b * 2 ^ (field f b - 1)) (2 ^ low f)) p (fields_value f (leb (top f) b) (field f b) (b % hid f) (subst (λ (z : Float). T (finite z)) (sym p) k))

-- ---- a value that was rounded, made from its pattern
pub encode : (f : Format) (s : Bool) (num den b : ℕ) → to_bits f (round f s num den) ≡ b → of_bits f b ≡ round f s num den
encode f s num den b e = ap (λ (z : ℕ). of_bits f z) (sym e) ∙ of_bits-to_bits f (round f s num den) (round-fits f s num den)

-- the pattern of q * 2 ^ k units, an infinity's from the overflow on
to_bits_inf : (f : Format) (s : Bool) → to_bits f (inf s) ≡ cond s (top f) 0 + ones f * hid f
unfolding to_bits
to_bits_inf f s = refl

pub span : (f : Format) → low f + suc (emax f) ≡ prec f - 1 + 2 * emax f
span binary32 = refl
span binary64 = refl

pow_lt_inv : (a b : ℕ) → 2 ^ a < 2 ^ b → a < b
pow_lt_inv a b h = lt_of_not-le (λ (g : b ≤ a). not-le_of_lt h (pow_mono g))

some : (f : Format) → 2 ≤ 2 * emax f
some binary32 = lit≤ tt
some binary64 = lit≤ tt

pub doubled : (f : Format) → 2 ^ prec f ≡ hid f * 2
doubled binary32 = refl
doubled binary64 = refl

units_inf : (f : Format) (s : Bool) (q k : ℕ) → ltb (q * 2 ^ k) (overflow f) ≡ false → units f s q k ≡ inf s
unfolding units
units_inf f s q k e = ap (λ (z : Bool). cond z (odd (suc (prec f)) s q k (low f)) (inf s)) e

module _ (f : Format) (q k : ℕ) (small : q ≤ 2 ^ prec f) (normal : Normal f q k) where
  cut : overflow f ≡ hid f * 2 ^ (2 * emax f)
  cut = ap (λ (z : ℕ). 2 ^ z) (span f) ∙ pow-add 2 (prec f - 1) (2 * emax f)

  -- below the overflow the pattern is below the infinity's
  under : q * 2 ^ k < overflow f → k * hid f + q < ones f * hid f
  under h = elim normal [ inl e ↦ first e | inr g ↦ elim (eq-or-lt_of_le small) [ inl e ↦ full e | inr l ↦ part g l ] ]
    where
      H : ℕ
      H = hid f

      E : ℕ
      E = 2 * emax f

      two_H : q ≤ H * 2
      two_H = le_trans small (le_of_eq (doubled f))

      dist : (x : ℕ) → (x + 1) * H ≡ x * H + H
      dist x = simp (add-mul, one-mul)

      first : k ≡ 0 → k * hid f + q < ones f * hid f
      first e = subst (λ (z : ℕ). z * hid f + q < ones f * hid f) (sym e) (go (0 * H) (E * H) ((E + 1) * H) (zero-mul H) (dist E) (mul-le-mul_right H (some f)) (pow_pos (prec f - 1)) two_H)
        where
          go : (z x y : ℕ) → z ≡ 0 → y ≡ x + H → 2 * H ≤ x → 0 < H → q ≤ H * 2 → z + q < y
          go z x y a b c d g = omega arith

      at : (j : ℕ) → H * 2 ^ j ≤ q * 2 ^ k → j < E
      at j g = pow_lt_inv j E (lt_of_mul-lt-mul_left H (lt_of_le_of_lt g (lt_of_lt_of_le h (le_of_eq cut))))

      part : hid f ≤ q → q < 2 ^ prec f → k * hid f + q < ones f * hid f
      part g l = go (k * H) (E * H) ((E + 1) * H) ((k + 1) * H) (dist E) (dist k) (mul-le-mul_right H (add-one-le (at k (mul-le-mul_right (2 ^ k) g)))) (lt_of_lt_of_le l (le_of_eq (doubled f)))
        where
          go : (w x y z : ℕ) → y ≡ x + H → z ≡ w + H → z ≤ x → q < H * 2 → w + q < y
          go w x y z a b c d = omega arith

      full : q ≡ 2 ^ prec f → k * hid f + q < ones f * hid f
      full e =
          let eq : H * 2 ^ suc k ≡ q * 2 ^ k = ap (λ (z : ℕ). H * z) (pow-succ' 2 k) ∙ sym (mul_assoc H 2 (2 ^ k)) ∙ ap (λ (z : ℕ). z * 2 ^ k) (sym (e ∙ doubled f)) in
          go (k * H) (E * H) ((E + 1) * H) ((k + 1) * H) ((k + 1 + 1) * H) (dist E) (dist k) (dist (k + 1)) (mul-le-mul_right H (more k E (at (suc k) (le_of_eq eq)))) (pow_pos (prec f - 1)) two_H
        where
          more : (k E : ℕ) → suc k < E → k + 1 + 1 ≤ E
          more k E h = omega arith

          go : (w x y z u : ℕ) → y ≡ x + H → z ≡ w + H → u ≡ z + H → u ≤ x → 0 < H → q ≤ H * 2 → w + q < y
          go w x y z u a b c d g i = omega arith

  over : overflow f ≤ q * 2 ^ k → ones f * hid f ≤ k * hid f + q
  over h = go (ltb k (2 * emax f)) (ltb→lt k (2 * emax f)) (nltb→le k (2 * emax f))
    where
      H : ℕ
      H = hid f

      E : ℕ
      E = 2 * emax f

      dist : (x : ℕ) → (x + 1) * H ≡ x * H + H
      dist x = simp (add-mul, one-mul)

      none : k ≡ 0 → E ≤ k → 2 ≤ E → ⊥
      none a b c = omega arith

      high : (x y z : ℕ) → z ≡ x + H → x ≤ y → H ≤ q → z ≤ y + q
      high x y z a b c = omega arith

      low' : (x y z w : ℕ) → z ≡ x + H → w ≡ y + H → x ≡ w → H * 2 ≤ q → z ≤ y + q
      low' x y z w a b c d = omega arith

      same : k < E → E < suc (suc k) → E ≡ k + 1
      same a b = omega arith

      go : (t : Bool) → (T t → k < E) → (T (not t) → E ≤ k) → ones f * hid f ≤ k * hid f + q
      go true a b =
          let eq : H * 2 ^ suc k ≡ 2 ^ prec f * 2 ^ k = ap (λ (z : ℕ). H * z) (pow-succ' 2 k) ∙ sym (mul_assoc H 2 (2 ^ k)) ∙ ap (λ (z : ℕ). z * 2 ^ k) (sym (doubled f)) in
          let up' : 2 ^ prec f * 2 ^ k ≤ q * 2 ^ k = le_trans (le_of_eq (sym eq)) (le_trans (mul-le-mul_left H (pow_mono (a tt))) (le_trans (le_of_eq (sym cut)) h)) in
          let q-ge : 2 ^ prec f ≤ q = le_of_mul-le-mul_right up' (pow_pos k) in
          let E-lt : E < suc (suc k) = pow_lt_inv E (suc (suc k)) (lt_of_mul-lt-mul_left H (lt_of_le_of_lt (le_trans (le_of_eq (sym cut)) (le_trans h (le_trans (mul-le-mul_right (2 ^ k) small) (le_of_eq (sym eq))))) (mul-lt-mul_of_pos_left (pow-lt (le_refl (suc (suc k)))) (pow_pos (prec f - 1))))) in
          low' (E * H) (k * H) ((E + 1) * H) ((k + 1) * H) (dist E) (dist k) (ap (λ (z : ℕ). z * H) (same (a tt) E-lt)) (le_trans (le_of_eq (sym (doubled f))) q-ge)
      go false a b = elim normal [ inl e ↦ absurd (none e (b tt) (some f)) | inr g ↦ high (E * H) (k * H) ((E + 1) * H) (dist E) (mul-le-mul_right H (b tt)) g ]

  pub units_bits : (s : Bool) → to_bits f (units f s q k) ≡ cond s (top f) 0 + min (k * hid f + q) (ones f * hid f)
  units_bits s = go (ltb (q * 2 ^ k) (overflow f)) refl (ltb→lt (q * 2 ^ k) (overflow f)) (nltb→le (q * 2 ^ k) (overflow f))
    where
      left : (c a b : ℕ) → a < b → c + a ≡ c + min a b
      left c a b h = omega arith

      right : (c a b : ℕ) → b ≤ a → c + b ≡ c + min a b
      right c a b h = omega arith

      go : (t : Bool) → ltb (q * 2 ^ k) (overflow f) ≡ t → (T t → q * 2 ^ k < overflow f) → (T (not t) → overflow f ≤ q * 2 ^ k) → to_bits f (units f s q k) ≡ cond s (top f) 0 + min (k * hid f + q) (ones f * hid f)
      go true e a b =
          to_bits_at f (units f s q k) s q k (units_val f s q k (a tt)) small normal
          ∙ add_assoc (cond s (top f) 0) (k * hid f) q
          ∙ left (cond s (top f) 0) (k * hid f + q) (ones f * hid f) (under (a tt))
      go false e a b = ap (λ (z : Float). to_bits f z) (units_inf f s q k e) ∙ to_bits_inf f s ∙ right (cond s (top f) 0) (k * hid f + q) (ones f * hid f) (over (b tt))

-- the pattern of a shifted number, rounded
pub rounded_bits : (f : Format) (s : Bool) (q j l k sh : ℕ) → low f + j + sh ≡ l + k → q < 2 ^ (prec f + sh) → ((k ≡ 0) ⊎ (2 ^ (prec f - 1 + sh) ≤ q))
    → to_bits f (round f s (q * 2 ^ j) (2 ^ l)) ≡ cond s (top f) 0 + min (k * hid f + closest q (2 ^ sh)) (ones f * hid f)
rounded_bits f s q j l k sh e h c =
    ap (λ (z : Float). to_bits f z) (shift_round f s q j l k sh e h c) ∙ units_bits f (closest q (2 ^ sh)) k (kept_in f q k sh h c).0 (kept_in f q k sh h c).1 s

-- ---- which patterns are finite
ones_some : (e : ℕ) → 0 ≡ 2 * e + 1 → ⊥
ones_some e h = omega arith

of_fields_ones : (f : Format) (s : Bool) (x t : ℕ) → x ≡ ones f → of_fields f s x t ≡ cond (eqb t 0) (inf s) nan
unfolding of_fields
of_fields_ones f s zero t e = absurd (ones_some (emax f) e)
of_fields_ones f s (suc x) t e = ap (λ (z : Bool). cond z (cond (eqb t 0) (inf s) nan) (odd (prec f) s (hid f + t) x (low f))) (is_true (eqb (suc x) (ones f)) (eq→eqb e))

pub inf_of_field : (f : Format) (x : Float) (b : ℕ) → T (fits f x) → T (not (is_nan x)) → to_bits f x ≡ b → field f b ≡ ones f → x ≡ inf (leb (top f) b)
unfolding is_nan
inf_of_field f x b h k e o =
    let p : cond (eqb (b % hid f) 0) (inf (leb (top f) b)) nan ≡ x = sym (of_fields_ones f (leb (top f) b) (field f b) (b % hid f) o) ∙ sym (of_bits_is f b) ∙ ap (λ (z : ℕ). of_bits f z) (sym e) ∙ of_bits-to_bits f x h in
    go (eqb (b % hid f) 0) p
  where
    go : (t : Bool) → cond t (inf (leb (top f) b)) nan ≡ x → x ≡ inf (leb (top f) b)
    go true p = sym p
    go false p = absurd (subst (λ (z : Float). T (not (is_nan z))) (sym p) k)

inf_field : (f : Format) (s : Bool) → field f (to_bits f (inf s)) ≡ ones f
unfolding to_bits
inf_field binary32 true = refl
inf_field binary32 false = refl
inf_field binary64 true = refl
inf_field binary64 false = refl

pub finite_of_field : (f : Format) (x : Float) → T (not (is_nan x)) → (field f (to_bits f x) ≡ ones f → ⊥) → T (finite x)
unfolding is_nan
finite_of_field f nan k o = k
finite_of_field f (inf s) k o = o (inf_field f s)
finite_of_field f (fin s m e) k o = tt

-- ---- no operation that rounds gives a NaN
pub round_no_nan : (f : Format) (s : Bool) (num den : ℕ) → T (not (is_nan (round f s num den)))
unfolding round is_nan
round_no_nan f s num den = go (num * 2 ^ low f) (size (num * 2 ^ low f / den) - prec f)
  where
    at : (b : Bool) (q k : ℕ) → T (not (is_nan (cond b (odd (suc (prec f)) s q k (low f)) (inf s))))
    at true zero k = tt
    at true (suc q) k = tt
    at false q k = tt

    go : (n k : ℕ) → T (not (is_nan (core f s n den k)))
    go n k = at (ltb (closest n (den * 2 ^ k) * 2 ^ k) (overflow f)) (closest n (den * 2 ^ k)) k

pub round_neg : (f : Format) (num den : ℕ) → neg (round f false num den) ≡ round f true num den
unfolding neg round
round_neg f num den = go (num * 2 ^ low f) (size (num * 2 ^ low f / den) - prec f)
  where
    at : (b : Bool) (q k : ℕ) → neg (cond b (odd (suc (prec f)) false q k (low f)) (inf false)) ≡ cond b (odd (suc (prec f)) true q k (low f)) (inf true)
    at true zero k = refl
    at true (suc q) k = refl
    at false q k = refl

    go : (n k : ℕ) → neg (core f false n den k) ≡ core f true n den k
    go n k = at (ltb (closest n (den * 2 ^ k) * 2 ^ k) (2 ^ (low f + suc (emax f)))) (closest n (den * 2 ^ k)) k

-- the sign stands on top of the pattern
pub to_bits_signed : (f : Format) (s : Bool) (num den : ℕ) → to_bits f (round f s num den) ≡ cond s (top f) 0 + to_bits f (round f false num den)
unfolding to_bits round
to_bits_signed f s num den = go s (num * 2 ^ low f) (size (num * 2 ^ low f / den) - prec f)
  where
    plain : (t a b : ℕ) → t + a + b ≡ t + (0 + a + b)
    plain t a b = omega arith

    infinite : (t a : ℕ) → t + a ≡ t + (0 + a)
    infinite t a = omega arith

    at : (s b : Bool) (q k : ℕ) → to_bits f (cond b (odd (suc (prec f)) s q k (low f)) (inf s)) ≡ cond s (top f) 0 + to_bits f (cond b (odd (suc (prec f)) false q k (low f)) (inf false))
    at s true zero k = plain (cond s (top f) 0) _ _
    at s true (suc q) k = plain (cond s (top f) 0) _ _
    at s false q k = infinite (cond s (top f) 0) (ones f * hid f)

    go : (s : Bool) (n k : ℕ) → to_bits f (core f s n den k) ≡ cond s (top f) 0 + to_bits f (core f false n den k)
    go s n k = at s (ltb (closest n (den * 2 ^ k) * 2 ^ k) (overflow f)) (closest n (den * 2 ^ k)) k

pub sig_is : (e t : ℕ) → 0 < e → sig binary64 e t ≡ 4503599627370496 + t
sig_is zero t h = absurd (no 0 h)
  where
    no : (x : ℕ) → x < x → ⊥
    no x h = omega arith
sig_is (suc e) t h = refl

pub sig_lt : (f : Format) (x t : ℕ) → t < hid f → sig f x t < 2 ^ prec f
sig_lt f x t h = subst (λ (z : ℕ). sig f x t < z) (sym (doubled f)) (go x)
  where
    a : (t h : ℕ) → t < h → t < h * 2
    a t h k = omega arith

    b : (t h : ℕ) → t < h → h + t < h * 2
    b t h k = omega arith

    go : (x : ℕ) → sig f x t < hid f * 2
    go zero = a t (hid f) h
    go (suc x) = b t (hid f) h
