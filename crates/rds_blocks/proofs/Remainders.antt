-- What the division leaves is the remainder, and the only one. Assumes nothing.
use Prim.Native.Nat.{ℕ, zero, suc, ◌+◌, ◌-◌, ◌*◌, ◌/◌, ◌%◌, ◌^◌, ◌<◌, ◌≤◌}
use native.Mathlib.Nat.{mod-lt, lt_of_lt_of_le}
use native.Mathlib.Omega.{arith}
use mathlib.Core.Path.{◌≡◌, refl, sym, ap, subst, ◌∙◌}
use mathlib.Core.Bool.{Bool, true, false, cond}
use mathlib.Core.List.{List, [], ◌∷◌, ◌++◌}
use lib.Bits.{bit_xor, xor_block, xor_lt, xor_shr, xor_comm, xor_zero_r}
use lib.Arith.{lt-one}
use lib.Dec.{lit<}
use lib.ListN.{length, replicate, length-append, length-replicate}
use lib.Pow.{pow_pos, pow_mono, pow-add, split, high, shr_lt}
use borrow.Author.Tests.{eqb-true, eqb-false}
use Rattle.rds_blocks.specs.Division.{bit, generator, lessened, divided_from, remainder_of, product, Leaves, Remainder}
use Rattle.rds_blocks.proofs.Exclusive.{xor_assoc, xor_twice, xor_cancel}

-- the generator without its highest place
abbrev tail : ℕ
tail = generator - 2 ^ 10

-- ---- the generator at place n: one at place n + 10, and the rest below it
module _ (n : ℕ) where
  shifted : generator * 2 ^ n ≡ 1 * 2 ^ (n + 10) + tail * 2 ^ n
  shifted = rw (pow-add 2 n 10) (omega arith)

  rest_below : tail * 2 ^ n < 2 ^ (n + 10)
  rest_below = rw (pow-add 2 n 10) (omega (arith, pow_pos n))

  ten : 2 ^ 10 ≤ 2 ^ (n + 10)
  ten = pow_mono {i = 10} {j = n + 10} (omega arith)

  -- the highest place goes
  lessened_below : (x : ℕ) → x < 2 ^ (1 + (n + 10)) → lessened n x < 2 ^ (n + 10)
  lessened_below x h = go (bit (n + 10) x) refl
    where
      top : x / 2 ^ (n + 10) < 2
      top = shr_lt 1 (n + 10) h

      low : x % 2 ^ (n + 10) < 2 ^ (n + 10)
      low = mod-lt x (pow_pos (n + 10))

      at : (q : ℕ) → x / 2 ^ (n + 10) ≡ q → x ≡ q * 2 ^ (n + 10) + x % 2 ^ (n + 10)
      at q e = sym (split x (n + 10)) ∙ ap (λ (y : ℕ). y * 2 ^ (n + 10) + x % 2 ^ (n + 10)) e

      go : (b : Bool) → bit (n + 10) x ≡ b → cond b (bit_xor x (generator * 2 ^ n)) x < 2 ^ (n + 10)
      go true e =
          let q : x / 2 ^ (n + 10) ≡ 1 = omega (arith, eqb-true (x / 2 ^ (n + 10) % 2) 1 e, top) in
          subst (λ (y : ℕ). bit_xor y (generator * 2 ^ n) < 2 ^ (n + 10)) (sym (at 1 q))
          (rw (shifted, xor_block (n + 10) 1 1 (x % 2 ^ (n + 10)) (tail * 2 ^ n) low rest_below)
          (omega (arith, xor_lt (n + 10) (x % 2 ^ (n + 10)) (tail * 2 ^ n) low rest_below)))
      go false e =
          let q : x / 2 ^ (n + 10) ≡ 0 = none (x / 2 ^ (n + 10)) top (eqb-false (x / 2 ^ (n + 10) % 2) 1 e) in
          subst (λ (y : ℕ). y < 2 ^ (n + 10)) (sym (at 0 q)) (omega (arith, low))
        where
          none : (q : ℕ) → q < 2 → (q % 2 ≡ 1 → ⊥) → q ≡ 0
          none zero l odd = refl
          none (suc zero) l odd = absurd (odd refl)
          none (suc (suc q)) l odd = absurd (omega arith)

-- ---- what is left has ten places
places : (n : ℕ) → 2 ^ (suc n + 10) ≡ 2 ^ (1 + (n + 10))
places n = ap (λ (k : ℕ). 2 ^ k) (omega arith)

left_below : (n x : ℕ) → x < 2 ^ (n + 10) → divided_from n x < 2 ^ 10
unfolding divided_from
left_below zero x h = h
left_below (suc n) x h = left_below n (lessened n x) (lessened_below n x (subst (λ (m : ℕ). x < m) (places n) h))

pub remainder_below : (x : ℕ) → x < 2 ^ 32 → remainder_of x < 2 ^ 10
unfolding remainder_of
remainder_below x h = left_below 22 x h

-- ---- the quotient: a bit where the generator was taken off
abbrev quotient_of : ℕ → ℕ → List Bool
quotient_of zero x = []
quotient_of (suc n) x = bit (n + 10) x ∷ quotient_of n (lessened n x)

quotient_length : (n x : ℕ) → length (quotient_of n x) ≡ n
quotient_length zero x = refl
quotient_length (suc n) x = ap suc (quotient_length n (lessened n x))

-- what a step takes off, it takes off
step_whole : (n x : ℕ) → x ≡ bit_xor (cond (bit (n + 10) x) (generator * 2 ^ n) 0) (lessened n x)
step_whole n x = go (bit (n + 10) x)
  where
    go : (b : Bool) → x ≡ bit_xor (cond b (generator * 2 ^ n) 0) (cond b (bit_xor x (generator * 2 ^ n)) x)
    go true = rw (xor_comm x (generator * 2 ^ n), xor_twice (generator * 2 ^ n) x)
    go false = refl

divided_whole : (n x : ℕ) → x ≡ bit_xor (product (quotient_of n x)) (divided_from n x)
unfolding divided_from
divided_whole zero x = refl
divided_whole (suc n) x =
    step_whole n x
    ∙ ap (bit_xor (cond (bit (n + 10) x) (generator * 2 ^ n) 0)) (divided_whole n (lessened n x))
    ∙ rw (quotient_length n (lessened n x), xor_assoc (cond (bit (n + 10) x) (generator * 2 ^ n) 0) (product (quotient_of n (lessened n x))) (divided_from n (lessened n x)))

-- ---- no other
gone : (k a : ℕ) → a < 2 ^ k → a / 2 ^ k ≡ 0
gone k a h = let e : 0 + k ≡ k = omega arith in lt-one (shr_lt 0 k (subst (λ (m : ℕ). a < 2 ^ m) (sym e) h))

abbrev term : Bool → ℕ → ℕ
term b n = cond b (generator * 2 ^ n) 0

term_top : (b : Bool) (n : ℕ) → term b n / 2 ^ (n + 10) ≡ cond b 1 0
term_top true n = rw (shifted n) (high 1 (n + 10) (rest_below n))
term_top false n = gone (n + 10) 0 (pow_pos (n + 10))

term_below : (b : Bool) (n : ℕ) → term b n < 2 ^ (suc n + 10)
term_below true n = rw (places n, pow-add 2 1 (n + 10), shifted n) (omega (arith, rest_below n))
term_below false n = pow_pos (suc n + 10)

wider : (n a : ℕ) → a < 2 ^ (n + 10) → a < 2 ^ (suc n + 10)
wider n a h = lt_of_lt_of_le h (pow_mono {i = n + 10} {j = suc n + 10} (omega arith))

product_below : (q : List Bool) → product q < 2 ^ (length q + 10)
product_below [] = lit< tt
product_below (b ∷ q) =
    let n = length q in
    xor_lt (suc n + 10) (term b n) (product q) (term_below b n) (wider n (product q) (product_below q))

-- the highest place tells the quotient's first bit
first_bit : (b : Bool) (n p r : ℕ) → p < 2 ^ (n + 10) → r < 2 ^ 10 → bit_xor (bit_xor (term b n) p) r / 2 ^ (n + 10) ≡ cond b 1 0
first_bit b n p r h k =
    rw (xor_shr (bit_xor (term b n) p) r (n + 10), xor_shr (term b n) p (n + 10), gone (n + 10) p h, gone (n + 10) r (lt_of_lt_of_le k (ten n)), xor_zero_r (term b n / 2 ^ (n + 10)), xor_zero_r (term b n / 2 ^ (n + 10)))
    (term_top b n)

abbrev digit : Bool → ℕ
digit b = cond b 1 0

same_bit : (a b : Bool) → digit a ≡ digit b → a ≡ b
same_bit true true e = refl
same_bit false false e = refl
same_bit true false e = absurd (omega (arith, e))
same_bit false true e = absurd (omega (arith, e))

peeled : (b a : Bool) (n u v r s : ℕ) → u < 2 ^ (n + 10) → v < 2 ^ (n + 10) → r < 2 ^ 10 → s < 2 ^ 10
    → bit_xor (bit_xor (term b n) u) r ≡ bit_xor (bit_xor (term a n) v) s → bit_xor u r ≡ bit_xor v s
peeled b a n u v r s hu hv hr hs e =
    xor_cancel (term a n) (bit_xor u r) (bit_xor v s)
    (sym (xor_assoc (term a n) u r) ∙ ap (λ (x : Bool). bit_xor (bit_xor (term x n) u) r) (sym same) ∙ e ∙ xor_assoc (term a n) v s)
  where
    same : b ≡ a
    same = same_bit b a (sym (first_bit b n u r hu hr) ∙ ap (λ (x : ℕ). x / 2 ^ (n + 10)) e ∙ first_bit a n v s hv hs)

same_left : (n : ℕ) (q p : List Bool) (r s : ℕ) → length q ≡ n → length p ≡ n → r < 2 ^ 10 → s < 2 ^ 10
    → bit_xor (product q) r ≡ bit_xor (product p) s → r ≡ s
same_left n [] [] r s l m h k e = e
same_left n [] (b ∷ p) r s l m h k e = absurd (omega (arith, l, m))
same_left n (b ∷ q) [] r s l m h k e = absurd (omega (arith, l, m))
same_left n (b ∷ q) (a ∷ p) r s l m h k e =
    let i : length q ≡ length p = omega (arith, l, m) in
    same_left (length p) q p r s i refl h k
    (peeled b a (length p) (product q) (product p) r s
    (subst (λ (x : ℕ). product q < 2 ^ (x + 10)) i (product_below q)) (product_below p) h k
    (ap (λ (x : ℕ). bit_xor (bit_xor (term b x) (product q)) r) (sym i) ∙ e))

-- a quotient may begin with zeros, so two of them may have the same length
padded : (k : ℕ) (q : List Bool) → product (replicate k false ++ q) ≡ product q
padded zero q = refl
padded (suc k) q = padded k q

pad_length : (k : ℕ) (q : List Bool) → length (replicate k false ++ q) ≡ k + length q
pad_length k q = length-append (replicate k false) q ∙ ap (λ (x : ℕ). x + length q) (length-replicate k false)

one_left : (x r s : ℕ) → Leaves x r → Leaves x s → r ≡ s
one_left x r s a b =
    let q = a.quotient in
    let p = b.quotient in
    same_left (length p + length q) (replicate (length p) false ++ q) (replicate (length q) false ++ p) r s
    (pad_length (length p) q) (pad_length (length q) p ∙ omega arith) a.below b.below
    (rw (padded (length p) q, padded (length q) p) (sym a.whole ∙ b.whole))

-- ---- together
left : (x : ℕ) → x < 2 ^ 32 → Leaves x (remainder_of x)
unfolding remainder_of
left x h = record { quotient = quotient_of 22 x; whole = divided_whole 22 x; below = left_below 22 x h }

pub remainder : (x : ℕ) → x < 2 ^ 32 → Remainder x (remainder_of x)
remainder x h = record { left = left x h; only = λ s l. one_left x s (remainder_of x) l (left x h) }
