-- A float that a format holds is the only one of its value, and rounds to itself. Over the format. Assumes nothing.
use mathlib.Core.Path.{◌≡◌, refl, sym, ap, ◌∙◌, subst}
use Prim.Native.Nat.{ℕ, suc, ◌+◌, ◌-◌, ◌*◌, ◌/◌, ◌%◌, ◌^◌, ◌≤◌, ◌<◌}
use native.Mathlib.Nat.{eq_of_mul-eq-mul_right, le_trans, le_of_eq, lt_of_lt_of_le, mul_comm, mul_right_comm, mul-lt-mul_of_pos_right, mul-pos, mod-lt, div-lt_iff_lt-mul}
use native.Mathlib.Omega.{arith}
use mathlib.Core.Bool.{Bool, false, not, cond, true≢false}
use lib.Dec.{T, leb, ltb, ltb→lt, lt→ltb}
use lib.Arith.{lt_of_le-ne}
use lib.Pow.{pow-add, pow_pos, pow_mono}
use lib.Ieee.{Float, nan, inf, fin, Format, binary32, binary64, prec, emax, low, up, down, size, round, fits, ne, is_nan, of_bits, to_bits, hid, top, ones}
use lib.Ieee.Bits.{of_bits-to_bits}
use lib.Ieee.Fits.{down_pos, round-fits}
use lib.Ieee.Exact.{HasValue, round_exact}
use lib.Ieee.Nearest.{div_same}
use lib.Ieee.Scale.{finite}
use Rattle.rounding.proofs.Round.{to_bits_fin}
use Rattle.rounding.specs.Pattern.{field, digits}
use Rattle.rounding.proofs.Pattern.{sig_lt, decode, inf_of_field, finite_of_field}
use Rattle.rounding.proofs.Value.{same_test}

-- the pattern, by the sign and the whole units
abbrev pat : Format → Bool → ℕ → ℕ
pat f s n = cond s (top f) 0 + (size n - prec f) * hid f + n / 2 ^ (size n - prec f)

to_bits_value : (f : Format) (x : Float) (s : Bool) (a c : ℕ) → 0 < c → HasValue x s a c → to_bits f x ≡ pat f s (a * 2 ^ low f / c)
to_bits_value f nan s a c C v = absurd v
to_bits_value f (inf t) s a c C v = absurd v
to_bits_value f (fin t m e) s a c C v =
    to_bits_fin f t m e (a * 2 ^ low f / c) (size (a * 2 ^ low f / c) - prec f)
    (div_same (m * up e * 2 ^ low f) (down e) (a * 2 ^ low f) c (down_pos e) C (mul_right_comm (m * up e) (2 ^ low f) c ∙ ap (λ (z : ℕ). z * 2 ^ low f) v.1 ∙ mul_right_comm a (down e) (2 ^ low f))) refl
    ∙ ap (λ (z : Bool). pat f z (a * 2 ^ low f / c)) v.0

pub unique : (f : Format) (x y : Float) (s : Bool) (a c : ℕ) → 0 < c → T (fits f x) → T (fits f y) → HasValue x s a c → HasValue y s a c → x ≡ y
unique f x y s a c C p q v w = sym (of_bits-to_bits f x p) ∙ ap (λ (z : ℕ). of_bits f z) (to_bits_value f x s a c C v ∙ sym (to_bits_value f y s a c C w)) ∙ of_bits-to_bits f y q

field_le : (f : Format) (b : ℕ) → field f b < suc (ones f)
field_le f b = (div-lt_iff_lt-mul (pow_pos (prec f - 1))).1 (subst (λ (a : ℕ). b % top f < a) (mul_comm (hid f) (suc (ones f))) (mod-lt b (mul-pos (pow_pos (prec f - 1)) (some (ones f)))))
  where
    some : (n : ℕ) → 0 < suc n
    some n = omega arith

finite_no_nan : (x : Float) → T (finite x) → T (not (is_nan x))
unfolding is_nan
finite_no_nan nan h = h
finite_no_nan (inf s) h = tt
finite_no_nan (fin s m e) h = tt

pub field_lt : (f : Format) (x : Float) → T (fits f x) → T (finite x) → field f (to_bits f x) < ones f
field_lt f x h k = lt_of_le-ne (le (field f (to_bits f x)) (ones f) (field_le f (to_bits f x))) (λ e. subst (λ (z : Float). T (finite z)) (inf_of_field f x (to_bits f x) h (finite_no_nan x k) refl e) k)
  where
    le : (a b : ℕ) → a < suc b → a ≤ b
    le a b h = omega arith

value_eq : (x : Float) (s t : Bool) (a c b d : ℕ) → 0 < c → HasValue x s a c → HasValue x t b d → (t ≡ s) × (a * d ≡ b * c)
value_eq nan s t a c b d C v w = absurd v
value_eq (inf r) s t a c b d C v w = absurd v
value_eq (fin r m e) s t a c b d C v w = (
  sym w.0 ∙ v.0,
  eq_of_mul-eq-mul_right (down e) (down_pos e) (a * d) (b * c)
      (mul_right_comm a d (down e) ∙ ap (λ (z : ℕ). z * d) (sym v.1) ∙ mul_right_comm (m * up e) c d ∙ ap (λ (z : ℕ). z * c) w.1 ∙ mul_right_comm b (down e) c),
)

-- a finite value that the format holds is rounded to itself
pub own_exact : (f : Format) (x : Float) (s : Bool) (a c : ℕ) → 0 < c → T (fits f x) → T (finite x) → HasValue x s a c → HasValue (round f s a c) s a c
own_exact f x s a c C h k v =
    let b = to_bits f x in
    let q = digits f b in
    let j = field f b - 1 in
    let w = value_eq x s (leb (top f) b) a c (q * 2 ^ j) (2 ^ low f) C v (decode f x b h k refl) in
    let q-lt : q < 2 ^ prec f = sig_lt f (field f b) (b % hid f) (mod-lt b (pow_pos (prec f - 1))) in
    round_exact f s a c q j C q-lt
    (lt_of_lt_of_le (mul-lt-mul_of_pos_right q-lt (pow_pos j)) (le_trans (le_of_eq (sym (pow-add 2 (prec f) j))) (pow_mono (room f (field f b) (field_lt f x h k)))))
    w.1
  where
    room : (f : Format) (j : ℕ) → j < ones f → prec f + (j - 1) ≤ low f + suc (emax f)
    room binary32 j h = omega arith
    room binary64 j h = omega arith

pub round_own : (f : Format) (x : Float) (s : Bool) (a c : ℕ) → 0 < c → T (fits f x) → T (finite x) → HasValue x s a c → round f s a c ≡ x
round_own f x s a c C h k v = unique f (round f s a c) x s a c C (round-fits f s a c) h (own_exact f x s a c C h k v) v

-- finite, by one comparison of the pattern without its sign
pub finite_test : (f : Format) (x : Float) → T (fits f x) → T (not (is_nan x)) → ltb (to_bits f x % top f) (ones f * hid f) ≡ finite x
finite_test f x h k =
    same_test (ltb (to_bits f x % top f) (ones f * hid f)) (finite x)
    (λ t. finite_of_field f x k (below (field f (to_bits f x)) (ones f) ((div-lt_iff_lt-mul (pow_pos (prec f - 1))).1 (ltb→lt (to_bits f x % top f) (ones f * hid f) t))))
    (λ t. lt→ltb (to_bits f x % top f) (ones f * hid f) ((div-lt_iff_lt-mul (pow_pos (prec f - 1))).0 (field_lt f x h t)))
  where
    below : (a b : ℕ) → a < b → a ≡ b → ⊥
    below a b h e = omega arith

pub not_nan : (x : Float) → ne x x ≡ false → T (not (is_nan x))
unfolding is_nan ne
not_nan nan h = absurd (true≢false h)
not_nan (inf s) h = tt
not_nan (fin s m e) h = tt
