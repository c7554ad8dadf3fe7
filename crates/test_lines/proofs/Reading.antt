-- A line read from left to right: a word by its digits, a name by its bytes. Assumes nothing.
use mathlib.Core.Path.{◌≡◌, refl, sym, ◌∙◌, ap, ap₂, subst}
use mathlib.Core.Bool.{Bool, true, false, ◌&&◌, cond, and-false}
use mathlib.Core.List.{List, [], ◌∷◌}
use Prim.Native.Nat.{ℕ, zero, suc, ◌+◌, ◌-◌, ◌*◌, ◌^◌, ◌≤◌, ◌<◌}
use native.Mathlib.Nat.{lt_of_lt_of_le}
use native.Mathlib.Numerals.{add-one}
use native.Mathlib.Omega.{arith}
use borrow.Author.Tests.{le-leb, lt-leb, lt-ltb, le-ltb, ltb-true, ltb-false, ne_eqb, eq-eqb}
use lib.Dec.{eqb, ltb, lit<}
use lib.ListN.{length, get_or, drop, drop_of_length-le}
use lib.Pow.{pow_mono, pow-add}
use lib.Seq.{slice, slice-cons, slice_empty, drop-cons}
use Rattle.answers.proofs.Tests.{and_out}
use Rattle.std.specs.Prelude.{Option, Some, None}
use Rattle.test_lines.specs.Columns.{digit_of, hex_of, word_at, is_word, has_at, all_of, stands_at, formed_of, starts_with, first_of}

-- ---- a word: after i digits v is below 16^i, and the digits left make it the word
pub record Read (l : List ℕ) (at v i : ℕ) : Type 0 where
  pub upto : i ≤ 16
  pub small : v < 2 ^ (4 * i)
  pub left : hex_of v (slice (at + i) (at + 16) l) ≡ hex_of 0 (slice at (at + 16) l)

pub read_start : (l : List ℕ) (at : ℕ) → Read l at 0 0
read_start l at = let e : at + 0 ≡ at = omega arith in record { upto = omega arith; small = lit< tt; left = rw e }

pub room : {l : List ℕ} {at v i : ℕ} → Read l at v i → i < 16 → v < 2 ^ 60
room {i} r h = lt_of_lt_of_le r.small (pow_mono {i = 4 * i} {j = 60} (omega arith))

grown : (v i d : ℕ) → v < 2 ^ (4 * i) → d < 16 → v * 16 + d < 2 ^ (4 * (i + 1))
grown v i d b h = subst (λ (n : ℕ). v * 16 + d < n) (sym (ap (λ (n : ℕ). 2 ^ n) (four i) ∙ pow-add 2 (4 * i) 4)) (go (2 ^ (4 * i)) b)
  where
    four : (i : ℕ) → 4 * (i + 1) ≡ 4 * i + 4
    four i = omega arith

    go : (n : ℕ) → v < n → v * 16 + d < n * 16
    go n b = omega arith

module _ (l : List ℕ) (at : ℕ) (h : at + 16 ≤ length l) where
  abbrev goes : ℕ → List ℕ → ℕ → Bool → Option ℕ
  goes v s d t = cond t (hex_of (v * 16 + d) s) None

  one_on : (i : ℕ) → i < 16 → slice (at + i) (at + 16) l ≡ get_or l (at + i) 0 ∷ slice (at + (i + 1)) (at + 16) l
  one_on i k =
      let e : suc (at + i) ≡ at + (i + 1) = omega arith in
      slice-cons (at + i) (at + 16) l 0 (omega arith) h ∙ ap (λ (n : ℕ). get_or l (at + i) 0 ∷ slice n (at + 16) l) e

  -- what is left to read, by the digit that comes
  step : (v i d : ℕ) (t : Bool) → i < 16 → d ≡ digit_of (get_or l (at + i) 0) → ltb d 16 ≡ t → Read l at v i → goes v (slice (at + (i + 1)) (at + 16) l) d t ≡ hex_of 0 (slice at (at + 16) l)
  step v i d t k e b r =
      ap (goes v (slice (at + (i + 1)) (at + 16) l) d) (sym b)
      ∙ ap (λ (d : ℕ). goes v (slice (at + (i + 1)) (at + 16) l) d (ltb d 16)) e
      ∙ sym (ap (hex_of v) (one_on i k))
      ∙ r.left

  pub read_next : (v i d : ℕ) → i < 16 → d ≡ digit_of (get_or l (at + i) 0) → d < 16 → Read l at v i → Read l at (v * 16 + d) (i + 1)
  read_next v i d k e b r = record { upto = omega arith; small = grown v i d r.small b; left = step v i d true k e (lt-ltb d 16 b) r }

  is : word_at l at ≡ hex_of 0 (slice at (at + 16) l)
  is = rw (le-leb (at + 16) (length l) h)

  pub no_digit : (v i d : ℕ) → i < 16 → d ≡ digit_of (get_or l (at + i) 0) → 16 ≤ d → Read l at v i → None ≡ word_at l at
  no_digit v i d k e b r = step v i d false k e (le-ltb d 16 b) r ∙ sym is

  pub read_end : (v i : ℕ) → 16 ≤ i → Read l at v i → Some v ≡ word_at l at
  read_end v i k r = let e : 16 ≡ i = omega (arith, r.upto) in ap (hex_of v) (sym (slice_empty (at + 16) l) ∙ ap (λ (n : ℕ). slice (at + n) (at + 16) l) e) ∙ r.left ∙ sym is

pub no_room : (l : List ℕ) (at : ℕ) → length l < at + 16 → None ≡ word_at l at
no_room l at h = rw (lt-leb (at + 16) (length l) h)

-- ---- a name
pub too_short : (s name : List ℕ) → length s < length name → false ≡ starts_with s name
too_short s [] h = absurd (omega arith)
too_short [] (c ∷ name) h = refl
too_short (b ∷ s) (c ∷ name) h = rw (← too_short s name (omega arith)) (by (eqb b c))
  where
    by : (t : Bool) → false ≡ (t && false)
    by true = refl
    by false = refl

-- the bytes before the i-th agree
abbrev pub Agrees : List ℕ → List ℕ → ℕ → Type 0
Agrees s name i = starts_with (drop i s) (drop i name) ≡ starts_with s name

module _ (s name : List ℕ) (h : length name ≤ length s) where
  turn : (i : ℕ) (t : Bool) → i < length name → eqb (get_or s i 0) (get_or name i 0) ≡ t → Agrees s name i → (t && starts_with (drop (i + 1) s) (drop (i + 1) name)) ≡ starts_with s name
  turn i t k e q = rw (add-one, ← e) (sym (ap₂ starts_with (drop-cons s i 0 (omega arith)) (drop-cons name i 0 k)) ∙ q)

  pub agrees_next : (i : ℕ) → i < length name → get_or s i 0 ≡ get_or name i 0 → Agrees s name i → Agrees s name (i + 1)
  agrees_next i k e = turn i true k (eq-eqb (get_or s i 0) (get_or name i 0) e)

  pub differs : (i : ℕ) → i < length name → (get_or s i 0 ≡ get_or name i 0 → ⊥) → Agrees s name i → false ≡ starts_with s name
  differs i k e = turn i false k (ne_eqb (get_or s i 0) (get_or name i 0) e)

  pub agrees_end : (i : ℕ) → length name ≤ i → Agrees s name i → true ≡ starts_with s name
  agrees_end i k q = ap (starts_with (drop i s)) (sym (drop_of_length-le name k)) ∙ q

-- ---- the first number that passes a test
module _ (f : ℕ → Bool) (k n : ℕ) (h : k < n) where
  search_step : (t : Bool) → f k ≡ t → first_of f k (n - k) ≡ cond t k (first_of f (k + 1) (n - (k + 1)))
  search_step t e = let m : n - k ≡ suc (n - (k + 1)) = omega arith in rw (m, e, add-one)

  pub found : f k ≡ true → first_of f k (n - k) ≡ k
  found e = search_step true e

  pub passed_by : f k ≡ false → first_of f k (n - k) ≡ first_of f (k + 1) (n - (k + 1))
  passed_by e = search_step false e

pub none_left : (f : ℕ → Bool) (k n : ℕ) → n ≤ k → first_of f k (n - k) ≡ k
none_left f k n h = let m : n - k ≡ 0 = omega arith in rw m

-- ---- words one after the other: k of them stand, and the next one's space is at the column `at`
pub record Standing (s : List ℕ) (at k : ℕ) : Type 0 where
  pub column : at ≡ 16 + 17 * k
  pub inside : at ≤ length s + 16
  pub stand : all_of (stands_at s) k ≡ true

pub standing_start : (s : List ℕ) → Standing s 16 0
standing_start s = record { column = refl; inside = omega arith; stand = refl }

all_false : (f : ℕ → Bool) (k n : ℕ) → k < n → f k ≡ false → all_of f n ≡ false
all_false f k zero h e = absurd (omega arith)
all_false f k (suc n) h e = go (λ l. all_false f k n l e) (ltb k n) refl
  where
    go : (k < n → all_of f n ≡ false) → (t : Bool) → ltb k n ≡ t → (all_of f n && f n) ≡ false
    go before true l = ap (λ (b : Bool). b && f n) (before (ltb-true k n l))
    go before false l =
        let same : n ≡ k = omega (arith, ltb-false k n l) in
        ap (λ (b : Bool). all_of f n && b) (ap f same ∙ e) ∙ and-false (all_of f n)

module _ (s : List ℕ) (at k : ℕ) (w : Standing s at k) where
  -- the next word, by its two tests
  pub stands : (a b t : Bool) → a ≡ has_at s at 32 → b ≡ is_word (word_at s (at + 1)) → (a && b) ≡ t → stands_at s k ≡ t
  stands a b t e f g = ap₂ (λ (x : ℕ) (y : ℕ). has_at s x 32 && is_word (word_at s (y + 1))) (sym w.column) (sym w.column) ∙ ap₂ ◌&&◌ (sym e) (sym f) ∙ g

  pub standing_next : stands_at s k ≡ true → Standing s (at + 17) (k + 1)
  standing_next e = record {
    column = omega (arith, w.column);
    inside = omega (arith, w.column, ltb-true (16 + 17 * k) (length s) (and_out (ltb (16 + 17 * k) (length s)) (eqb (get_or s (16 + 17 * k) 0) 32) (and_out (has_at s (16 + 17 * k) 32) (is_word (word_at s (16 + 17 * k + 1))) e).0).0);
    stand = rw (add-one k) (ap₂ ◌&&◌ w.stand e);
  }

  pub not_formed : (n : ℕ) → k < n → stands_at s k ≡ false → false ≡ formed_of s n
  unfolding formed_of
  not_formed n h e = sym (ap (λ (b : Bool). b && has_at s (16 + 17 * n) 10) (all_false (stands_at s) k n h e))

  pub formed_by : (n : ℕ) → n ≤ k → k ≤ n → has_at s at 10 ≡ formed_of s n
  unfolding formed_of
  formed_by n h l =
      let same : k ≡ n = omega arith in
      ap₂ (λ (b : Bool) (x : ℕ). b && has_at s x 10) (sym w.stand ∙ ap (all_of (stands_at s)) same) (w.column ∙ ap (λ (j : ℕ). 16 + 17 * j) same)
