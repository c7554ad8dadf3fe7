-- The laws of a cut, over the rule: what falls off, that equal fractions are cut alike, what the rules mean,
-- and that `closest`, by which `round` works, is one of them. Assumes nothing.
use Prim.Native.Nat.{ℕ, ◌+◌, ◌*◌, ◌/◌, ◌%◌, ◌≤◌, ◌<◌, compare, Ordering}
use mathlib.Core.Path.{◌≡◌, refl, sym, ap, ◌∙◌, subst}
use mathlib.Core.Bool.{Bool, true, false, not, cond}
use mathlib.Core.Logic.{inl, inr}
use native.Mathlib.Omega.{arith}
use native.Mathlib.Numerals.{add-one}
use native.Mathlib.Nat.{add-zero, add-mul, one-mul, zero-mul, mul_comm, mul_right_comm, mul-lt-mul_of_pos_right, lt_of_mul-lt-mul_right, eq_of_mul-eq-mul_right, zero-add, div-eq_of_lt, div-eq_of_lt-le, mod-eq_of_lt, div-div-eq-div-mul, div-add-mod', mod-lt, lt_of_le_of_lt, lt_of_lt_of_le, le_of_eq}
use borrow.Author.Tests.{eq-eqb, ne_eqb, lt-ltb, le-ltb, eqb-true, eqb-false, ltb-true, ltb-false}
use lib.Dec.{T, is_le, compare_is_eq, leb→le, nleb→lt, eqb→eq, eqb_refl, eqb, ltb, lit<}
use lib.Arith.{mod-mul}
use lib.Ieee.{nearest}
use lib.Ieee.Nearest.{closest, div_same}
use Rattle.rounding.specs.Cut.{Rest, none, less, half, more, rest_of, rest_by, Rule, downward, halfEven, halfUp, grows, cut_by, Greatest, Nearest, NearestUp}

-- ---- what falls off, as a fact on the remainder r of b
abbrev pub Falls : Rest → ℕ → ℕ → Type 0
Falls none r b = r ≡ 0
Falls less r b = (0 < r) × (r * 2 < b)
Falls half r b = (0 < r) × (r * 2 ≡ b)
Falls more r b = b < r * 2

some : (r : ℕ) → (r ≡ 0 → ⊥) → 0 < r
some r h = omega arith

above : (r b : ℕ) → b ≤ r * 2 → (r * 2 ≡ b → ⊥) → b < r * 2
above r b h n = omega arith

pub rest_falls : (r b : ℕ) → Falls (rest_of r b) r b
unfolding rest_of
rest_falls r b = by (eqb r 0) refl (ltb (r * 2) b) refl (eqb (r * 2) b) refl
  where
    by : (x : Bool) → eqb r 0 ≡ x → (y : Bool) → ltb (r * 2) b ≡ y → (z : Bool) → eqb (r * 2) b ≡ z → Falls (cond x none (cond y less (cond z half more))) r b
    by true e y f z g = eqb-true r 0 e
    by false e true f z g = (some r (eqb-false r 0 e), ltb-true (r * 2) b f)
    by false e false f true g = (some r (eqb-false r 0 e), eqb-true (r * 2) b g)
    by false e false f false g = above r b (ltb-false (r * 2) b f) (eqb-false (r * 2) b g)

pub rest_is : (t : Rest) (r b : ℕ) → 0 < b → Falls t r b → rest_of r b ≡ t
unfolding rest_of
rest_is none r b B h = rw (eq-eqb r 0 h)
rest_is less r b B h = rw (ne_eqb r 0 (λ e. omega arith), lt-ltb (r * 2) b h.1)
rest_is half r b B h = rw (ne_eqb r 0 (λ e. omega arith), le-ltb (r * 2) b (omega arith), eq-eqb (r * 2) b h.1)
rest_is more r b B h = rw (ne_eqb r 0 (λ e. omega arith), le-ltb (r * 2) b (omega arith), ne_eqb (r * 2) b (λ e. omega arith))

-- of a number cut at the place of 2 * h, by its digits
pub rest_by_lem : (d h : ℕ) → 0 < h → rest_of (d % (2 * h)) (2 * h) ≡ rest_by (eqb (d / h % 2) 1) (ltb 0 (d % h))
rest_by_lem d h H = by (eqb (d / h % 2) 1) refl (ltb 0 (d % h)) refl
  where
    first : ℕ
    first = d / h % 2

    later : ℕ
    later = d % h

    r : d % (2 * h) ≡ first * h + later
    r = mod-mul d (lit< tt) H

    clear : (f : ℕ) → f < 2 → (f ≡ 1 → ⊥) → f ≡ 0
    clear f l n = omega arith

    low : eqb first 1 ≡ false → d % (2 * h) ≡ later
    low e = r ∙ ap (λ (z : ℕ). z * h + later) (clear first (mod-lt (d / h) (lit< tt)) (eqb-false first 1 e)) ∙ ap (λ (z : ℕ). z + later) (zero-mul h) ∙ zero-add later

    high : eqb first 1 ≡ true → d % (2 * h) ≡ h + later
    high e = r ∙ ap (λ (z : ℕ). z * h + later) (eqb-true first 1 e) ∙ ap (λ (z : ℕ). z + later) (one-mul h)

    by : (x : Bool) → eqb first 1 ≡ x → (y : Bool) → ltb 0 later ≡ y → rest_of (d % (2 * h)) (2 * h) ≡ rest_by x y
    by false e false g = rest_is none _ _ (omega arith) (omega (arith, low e, ltb-false 0 later g))
    by false e true g = rest_is less _ _ (omega arith) (omega (arith, low e, ltb-true 0 later g), omega (arith, low e, mod-lt d H))
    by true e false g = rest_is half _ _ (omega arith) (omega (arith, high e), omega (arith, high e, ltb-false 0 later g))
    by true e true g = rest_is more _ _ (omega arith) (omega (arith, high e, ltb-true 0 later g))

-- ---- equal fractions are cut alike
first_zero : (a c : ℕ) → 0 < c → a * c ≡ 0 → a ≡ 0
first_zero a c C h = eq_of_mul-eq-mul_right c C a 0 (h ∙ sym (zero-mul c))

-- the remainders r of b and t of d are equal fractions
module _ (r b t d : ℕ) (B : 0 < b) (D : 0 < d) (e : r * d ≡ t * b) where
  twice : r * 2 * d ≡ t * 2 * b
  twice = mul_right_comm r 2 d ∙ ap (λ (z : ℕ). z * 2) e ∙ mul_right_comm t b 2

  moved : (k : Rest) → Falls k t d → Falls k r b
  moved none h = first_zero r d D (e ∙ ap (λ (z : ℕ). z * b) h ∙ zero-mul b)
  moved less h = (
    lt_of_mul-lt-mul_right d (lt_of_le_of_lt (le_of_eq (zero-mul d ∙ sym (zero-mul b))) (lt_of_lt_of_le (mul-lt-mul_of_pos_right h.0 B) (le_of_eq (sym e)))),
    lt_of_mul-lt-mul_right d (lt_of_le_of_lt (le_of_eq twice) (lt_of_lt_of_le (mul-lt-mul_of_pos_right h.1 B) (le_of_eq (mul_comm d b)))),
  )
  moved half h = (
    lt_of_mul-lt-mul_right d (lt_of_le_of_lt (le_of_eq (zero-mul d ∙ sym (zero-mul b))) (lt_of_lt_of_le (mul-lt-mul_of_pos_right h.0 B) (le_of_eq (sym e)))),
    eq_of_mul-eq-mul_right d D (r * 2) b (twice ∙ ap (λ (z : ℕ). z * b) h.1 ∙ mul_comm d b),
  )
  moved more h = lt_of_mul-lt-mul_right d (lt_of_le_of_lt (le_of_eq (mul_comm b d)) (lt_of_lt_of_le (mul-lt-mul_of_pos_right h B) (le_of_eq (sym twice))))

  pub rest_same : rest_of r b ≡ rest_of t d
  rest_same = rest_is (rest_of t d) r b B (moved (rest_of t d) (rest_falls t d))

-- with the same whole part, the remainders of equal fractions are equal fractions
mod_same : (a b c d : ℕ) → a * d ≡ c * b → a / b ≡ c / d → a % b * d ≡ c % d * b
mod_same a b c d e q =
    let x : a / b * b * d + a % b * d ≡ a * d = sym (add-mul (a / b * b) (a % b) d) ∙ ap (λ (z : ℕ). z * d) (div-add-mod' a b) in
    let y : c / d * d * b + c % d * b ≡ c * b = sym (add-mul (c / d * d) (c % d) b) ∙ ap (λ (z : ℕ). z * b) (div-add-mod' c d) in
    let w : a / b * b * d ≡ c / d * d * b = mul_right_comm (a / b) b d ∙ ap (λ (z : ℕ). z * d * b) q in
    omega arith

pub cut_same : (k : Rule) (s : Bool) (a b c d : ℕ) → 0 < b → 0 < d → a * d ≡ c * b → cut_by k s a b ≡ cut_by k s c d
unfolding cut_by
cut_same k s a b c d B D e =
    let q : a / b ≡ c / d = div_same a b c d B D e in
    ap (λ (z : ℕ). z + cond (grows k s (eqb (z % 2) 1) (rest_of (a % b) b)) 1 0) q
    ∙ ap (λ (z : Rest). c / d + cond (grows k s (eqb (c / d % 2) 1) z) 1 0) (rest_same (a % b) b (c % d) d B D (mod_same a b c d e q))

-- at the place of 2 * h, by the digits that fall off
pub cut_digits : (k : Rule) (s : Bool) (d h : ℕ) → 0 < h → d / h / 2 + cond (grows k s (eqb (d / h / 2 % 2) 1) (rest_by (eqb (d / h % 2) 1) (ltb 0 (d % h)))) 1 0 ≡ cut_by k s d (2 * h)
unfolding cut_by
cut_digits k s d h H = rw (div-div-eq-div-mul d h 2, mul_comm h 2, ← rest_by_lem d h H)

-- at a place where all of d falls off, and is less than a half
pub cut_off : (k : Rule) (s : Bool) (d b : ℕ) → d * 2 < b → cond (grows k s false (rest_by false (ltb 0 d))) 1 0 ≡ cut_by k s d b
unfolding cut_by
cut_off k s d b h = rw (div-eq_of_lt {n = d} {m = b} (omega arith), mod-eq_of_lt {n = d} {m = b} (omega arith), by (ltb 0 d) refl) (sym (zero-add (cond (grows k s false (rest_by false (ltb 0 d))) 1 0)))
  where
    by : (t : Bool) → ltb 0 d ≡ t → rest_of d b ≡ rest_by false t
    by true e = rest_is less d b (omega arith) (ltb-true 0 d e, h)
    by false e = rest_is none d b (omega arith) (omega (arith, ltb-false 0 d e))

-- a whole number stays
pub cut_whole : (k : Rule) (s : Bool) (n : ℕ) → cut_by k s n 1 ≡ n
unfolding cut_by
cut_whole k s n = rw (rest_is none (n % 1) 1 (omega arith) (omega arith)) (omega arith)

pub cut_le : (k : Rule) (s : Bool) (a b : ℕ) → cut_by k s a b ≤ a / b + 1
unfolding cut_by
cut_le k s a b = by (grows k s (eqb (a / b % 2) 1) (rest_of (a % b) b))
  where
    by : (t : Bool) → a / b + cond t 1 0 ≤ a / b + 1
    by true = omega arith
    by false = omega arith

-- ---- the meaning of the rules, with a / b * b as a number of its own
kept : (q b n : ℕ) → n ≡ q * b → (q + 0) * b ≡ n
kept q b n e = ap (λ (z : ℕ). z * b) (add-zero q) ∙ sym e

grown : (q b n : ℕ) → n ≡ q * b → (q + 1) * b ≡ n + b
grown q b n e = add-mul q 1 b ∙ ap (λ (z : ℕ). q * b + z) (one-mul b) ∙ ap (λ (z : ℕ). z + b) (sym e)

never : (odd : Bool) (t : Rest) → grows downward false odd t ≡ false
never odd none = refl
never odd less = refl
never odd half = refl
never odd more = refl

pub cut_downward : (s : Bool) (a b : ℕ) → 0 < b → Greatest s a b (cut_by downward s a b)
unfolding cut_by
cut_downward s a b B = by s (rest_of (a % b) b) (rest_falls (a % b) b)
  where
    up : 0 < a % b → Greatest true a b (a / b + 1)
    up h = omega (arith, grown (a / b) b (a / b * b) refl, div-add-mod' a b, mod-lt a B)

    by : (s : Bool) (t : Rest) → Falls t (a % b) b → Greatest s a b (a / b + cond (grows downward s (eqb (a / b % 2) 1) t) 1 0)
    by false t h = rw (never (eqb (a / b % 2) 1) t) (omega (arith, kept (a / b) b (a / b * b) refl, div-add-mod' a b, mod-lt a B))
    by true none h = omega (arith, kept (a / b) b (a / b * b) refl, div-add-mod' a b, mod-lt a B)
    by true less h = up h.0
    by true half h = up h.0
    by true more h = up (omega arith)

near : (a b m n : ℕ) → m * b ≡ n → n * 2 ≤ a * 2 + b → a * 2 ≤ n * 2 + b → (n * 2 ≡ a * 2 + b → m % 2 ≡ 0) → (a * 2 ≡ n * 2 + b → m % 2 ≡ 0) → Nearest a b m
near a b m n e h k f g = rw e (h, k, λ t. elim t [ inl x ↦ f x | inr x ↦ g x ])

pub cut_half_even : (s : Bool) (a b : ℕ) → 0 < b → Nearest a b (cut_by halfEven s a b)
unfolding cut_by
cut_half_even s a b B = by (rest_of (a % b) b) (rest_falls (a % b) b)
  where
    q : ℕ
    q = a / b

    whole : q * b + a % b ≡ a
    whole = div-add-mod' a b

    below : a % b * 2 < b → Nearest a b (q + 0)
    below h = near a b (q + 0) (q * b) (kept q b (q * b) refl) (omega (arith, whole)) (omega (arith, whole)) (λ e. omega (arith, whole)) (λ e. omega (arith, whole))

    tie : (t : Bool) → eqb (q % 2) 1 ≡ t → a % b * 2 ≡ b → Nearest a b (q + cond t 1 0)
    tie true e h = near a b (q + 1) (q * b + b) (grown q b (q * b) refl) (omega (arith, whole)) (omega (arith, whole)) (λ x. omega (arith, eqb-true (q % 2) 1 e)) (λ x. omega (arith, whole))
    tie false e h = near a b (q + 0) (q * b) (kept q b (q * b) refl) (omega (arith, whole)) (omega (arith, whole)) (λ x. omega (arith, whole)) (λ x. even q (eqb-false (q % 2) 1 e))
      where
        even : (q : ℕ) → (q % 2 ≡ 1 → ⊥) → (q + 0) % 2 ≡ 0
        even q n = omega arith

    by : (t : Rest) → Falls t (a % b) b → Nearest a b (a / b + cond (grows halfEven s (eqb (a / b % 2) 1) t) 1 0)
    by none h = below (omega arith)
    by less h = below h.1
    by half h = tie (eqb (q % 2) 1) refl h.1
    by more h =
        near a b (q + 1) (q * b + b) (grown q b (q * b) refl) (omega (arith, whole, mod-lt a B)) (omega (arith, whole, mod-lt a B)) (λ e. omega (arith, whole, mod-lt a B)) (λ e. omega (arith, whole, mod-lt a B))

pub cut_half_up : (s : Bool) (a b : ℕ) → 0 < b → NearestUp s a b (cut_by halfUp s a b)
unfolding cut_by
cut_half_up s a b B = by s (rest_of (a % b) b) (rest_falls (a % b) b)
  where
    q : ℕ
    q = a / b

    by : (s : Bool) (t : Rest) → Falls t (a % b) b → NearestUp s a b (q + cond (grows halfUp s (eqb (q % 2) 1) t) 1 0)
    by false none h = omega (arith, kept q b (q * b) refl, div-add-mod' a b)
    by false less h = omega (arith, kept q b (q * b) refl, div-add-mod' a b)
    by false half h = omega (arith, grown q b (q * b) refl, div-add-mod' a b)
    by false more h = omega (arith, grown q b (q * b) refl, div-add-mod' a b, mod-lt a B)
    by true none h = omega (arith, kept q b (q * b) refl, div-add-mod' a b)
    by true less h = omega (arith, kept q b (q * b) refl, div-add-mod' a b)
    by true half h = omega (arith, kept q b (q * b) refl, div-add-mod' a b)
    by true more h = omega (arith, grown q b (q * b) refl, div-add-mod' a b, mod-lt a B)

-- ---- `closest`, by which `round` chooses among a format's values, is the cut by `halfEven`
is_lt : (a b : ℕ) → a < b → compare a b ≡ Ordering.lt
is_lt a b h = go (compare a b) (eqb→eq a b) (nleb→lt a b)
  where
    go : (o : Ordering) → (T (compare_is_eq o) → a ≡ b) → (T (not (is_le o)) → b < a) → o ≡ Ordering.lt
    go Ordering.lt e g = refl
    go Ordering.eq e g = absurd (let x = e tt in omega arith)
    go Ordering.gt e g = absurd (let x = g tt in omega arith)

is_eq : (a b : ℕ) → a ≡ b → compare a b ≡ Ordering.eq
is_eq a b h = go (compare a b) (subst (λ (z : ℕ). T (eqb a z)) h (eqb_refl a))
  where
    go : (o : Ordering) → T (compare_is_eq o) → o ≡ Ordering.eq
    go Ordering.lt k = absurd k
    go Ordering.eq k = refl
    go Ordering.gt k = absurd k

is_gt : (a b : ℕ) → b < a → compare a b ≡ Ordering.gt
is_gt a b h = go (compare a b) (leb→le a b)
  where
    go : (o : Ordering) → (T (is_le o) → a ≤ b) → o ≡ Ordering.gt
    go Ordering.lt k = absurd (let x = k tt in omega arith)
    go Ordering.eq k = absurd (let x = k tt in omega arith)
    go Ordering.gt k = refl

pub cut_closest : (s : Bool) (a b : ℕ) → 0 < b → cut_by halfEven s a b ≡ closest a b
unfolding cut_by
cut_closest s a b B = by (rest_of (a % b) b) (rest_falls (a % b) b)
  where
    q : ℕ
    q = a / b

    tie : (t : Bool) → eqb (q % 2) 1 ≡ t → q + cond t 1 0 ≡ q + q % 2
    tie true e = ap (λ (z : ℕ). q + z) (sym (eqb-true (q % 2) 1 e))
    tie false e = even q (eqb-false (q % 2) 1 e)
      where
        even : (q : ℕ) → (q % 2 ≡ 1 → ⊥) → q + 0 ≡ q + q % 2
        even q n = omega arith

    by : (t : Rest) → Falls t (a % b) b → q + cond (grows halfEven s (eqb (q % 2) 1) t) 1 0 ≡ closest a b
    by none h = add-zero q ∙ ap (nearest q) (sym (is_lt (a % b * 2) b (omega arith)))
    by less h = add-zero q ∙ ap (nearest q) (sym (is_lt (a % b * 2) b h.1))
    by half h = tie (eqb (q % 2) 1) refl ∙ ap (nearest q) (sym (is_eq (a % b * 2) b h.1))
    by more h = add-one q ∙ ap (nearest q) (sym (is_gt (a % b * 2) b h))

-- the greatest whole number is the quotient
pub greatest_div : (a b n : ℕ) → Greatest false a b n → a / b ≡ n
greatest_div a b n h = div-eq_of_lt-le b h.0 (omega (arith, add-mul n 1 b, one-mul b))

-- the nearest whole number is the greatest one, or the next where it lies above the fraction
pub closest_rose : (a b : ℕ) → 0 < b → closest a b ≡ a / b + cond (ltb a (closest a b * b)) 1 0
unfolding cut_by
closest_rose a b B = by (grows halfEven false (eqb (a / b % 2) 1) (rest_of (a % b) b)) (closest a b) (sym (cut_closest false a b B))
  where
    by : (t : Bool) (n : ℕ) → n ≡ a / b + cond t 1 0 → n ≡ a / b + cond (ltb a (n * b)) 1 0
    by true n e = e ∙ rw (lt-ltb a (n * b) (omega (arith, ap (λ (z : ℕ). z * b) e, grown (a / b) b (a / b * b) refl, div-add-mod' a b, mod-lt a B)))
    by false n e = e ∙ rw (le-ltb a (n * b) (omega (arith, ap (λ (z : ℕ). z * b) e, kept (a / b) b (a / b * b) refl, div-add-mod' a b)))
