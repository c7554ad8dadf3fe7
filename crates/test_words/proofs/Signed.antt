-- A signed number and its word: the machine's bits are those of the definition. Assumes nothing.
-- An i64 as an unsigned number is x itself where it is not below 0, and -1 - x where it is.
use mathlib.Core.Path.{◌≡◌, refl, sym, ◌∙◌, ap, subst}
use mathlib.Core.Bool.{Bool, true, false, not, cond, true≢false}
use Prim.Native.Nat.{ℕ, suc, ◌-◌, ◌%◌, ◌^◌, ◌≤◌, ◌<◌}
use native.Mathlib.Nat.{mod-lt}
use native.Mathlib.Omega.{arith}
use borrow.Author.Tests.{lt-ltb, le-ltb}
use lib.Dec.{T, ltb, leb-zero, ltb→lt}
use lib.IntN.{ℤ, pos, negsuc, nat_abs, ◌-ℤ◌}
use lib.Pow.{pow_pos}
use lib.Signed.{le_z, mag, non_neg, nat_abs-le}
use mir.Syntax.{Width, w8, w16, w32, w64, w128}
use mir.Val.{Fits, SFits, bits, hbits, sel, to_z, of_z}
use mir.ValLaws.{to_z-of_z}
use Rattle.rounding.proofs.Lin.{eq_in, sub_law'}
use Rattle.test_words.specs.Words.{word_of, signed_of}

-- ---- from a word
less : (m n : ℕ) → m < n → negsuc (n - suc m) ≡ pos m -ℤ pos n
less m n h = eq_in (negsuc (n - suc m)) (pos m -ℤ pos n) (omega (arith, sub_law' (pos m) (pos n)))

halves : (w : Width) → hbits w ≡ bits w - 1
halves w8 = refl
halves w16 = refl
halves w32 = refl
halves w64 = refl
halves w128 = refl

-- m, a word's last bits, as the machine reads it
pub signed_is : (w : Width) (n m : ℕ) → m ≡ n % 2 ^ bits w → to_z w m ≡ signed_of (bits w) n
unfolding signed_of
signed_is w n m e = rw (e, halves w) (go (n % 2 ^ bits w) (mod-lt n (pow_pos (bits w))) (ltb (n % 2 ^ bits w) (2 ^ (bits w - 1))))
  where
    go : (m : ℕ) → m < 2 ^ bits w → (t : Bool) → sel t (pos m) (negsuc (2 ^ bits w - suc m)) ≡ cond t (pos m) (pos m -ℤ pos (2 ^ bits w))
    go m h true = refl
    go m h false = less m (2 ^ bits w) h

-- ---- to a word, and back
pub word_low : (b w : ℕ) → w % 2 ^ b < 2 ^ (b - 1) → word_of (signed_of b w) ≡ w % 2 ^ b % 2 ^ 64
unfolding signed_of
word_low b w h = rw (lt-ltb (w % 2 ^ b) (2 ^ (b - 1)) h)

pub word_high : (b w : ℕ) → 2 ^ (b - 1) ≤ w % 2 ^ b → word_of (signed_of b w) ≡ 2 ^ 64 - suc ((2 ^ b - suc (w % 2 ^ b)) % 2 ^ 64)
unfolding signed_of
word_high b w h = rw (le-ltb (w % 2 ^ b) (2 ^ (b - 1)) h, ← less (w % 2 ^ b) (2 ^ b) (mod-lt w (pow_pos b)))

pub word_plus : (x : ℤ) → SFits w64 x → T (non_neg x) → nat_abs x ≡ word_of x
word_plus (pos n) f h = let k = f.sfits in omega arith
word_plus (negsuc n) f h = absurd h

pub word_minus : (x : ℤ) → SFits w64 x → T (not (non_neg x)) → 18446744073709551615 - mag x ≡ word_of x
word_minus (pos n) f h = absurd h
word_minus (negsuc n) f h = let k = f.sfits in omega arith

-- a number as the code reads it back from its bits
abbrev read : ℤ → ℤ
read x = to_z w64 (of_z w64 x)

wide : (m : ℕ) → m ≤ 9223372036854775808 → Fits w64 m
wide m h = omega arith

-- the cast of what is not below 0
pub casts : (x z : ℤ) → SFits w64 x → z ≡ x → T (non_neg x) → T (non_neg z) × Fits w64 (nat_abs z)
casts x z f e h = subst (λ (y : ℤ). T (non_neg y) × Fits w64 (nat_abs y)) (sym e) (h, wide (nat_abs x) (nat_abs-le x f.sfits))

pub reads : (x : ℤ) → SFits w64 x → read x ≡ x
reads x f = to_z-of_z w64 x f

-- what the test x >= 0 found
pub at_least_0 : (x : ℤ) → SFits w64 x → le_z (pos 0) (read x) ≡ true → T (non_neg x)
at_least_0 x f e = go x (ap (λ (z : ℤ). le_z (pos 0) z) (sym (reads x f)) ∙ e)
  where
    go : (x : ℤ) → le_z (pos 0) x ≡ true → T (non_neg x)
    go (pos n) e = tt
    go (negsuc n) e = true≢false (sym e)

pub below_0 : (x : ℤ) → SFits w64 x → le_z (pos 0) (read x) ≡ false → T (not (non_neg x))
below_0 x f e = go x (ap (λ (z : ℤ). le_z (pos 0) z) (sym (reads x f)) ∙ e)
  where
    go : (x : ℤ) → le_z (pos 0) x ≡ false → T (not (non_neg x))
    go (pos n) e = absurd (true≢false (sym (leb-zero n) ∙ e))
    go (negsuc n) e = tt

-- -1 - x for an x below 0
minus : (x : ℤ) → T (not (non_neg x)) → negsuc 0 -ℤ x ≡ pos (mag x)
minus (pos n) h = absurd h
minus (negsuc k) h = go (ltb (suc k) 1) (ltb→lt (suc k) 1)
  where
    go : (t : Bool) → (T t → suc k < 1) → cond t (negsuc (1 - suc (suc k))) (pos (suc k - 1)) ≡ pos k
    go true h = let n : suc k < 1 = h tt in absurd (omega arith)
    go false h = ap pos (omega arith)

pub minus_is : (x : ℤ) → SFits w64 x → T (not (non_neg x)) → negsuc 0 -ℤ read x ≡ pos (mag x)
minus_is x f h = ap (λ (z : ℤ). negsuc 0 -ℤ z) (reads x f) ∙ minus x h

pub minus_fits : (x : ℤ) → SFits w64 x → T (not (non_neg x)) → SFits w64 (negsuc 0 -ℤ read x)
minus_fits x f h = subst (λ (z : ℤ). SFits w64 z) (sym (minus_is x f h)) (record { sfits = f.sfits })

pub minus_reads : (x : ℤ) → SFits w64 x → T (not (non_neg x)) → read (negsuc 0 -ℤ read x) ≡ pos (mag x)
minus_reads x f h = reads (negsuc 0 -ℤ read x) (minus_fits x f h) ∙ minus_is x f h
