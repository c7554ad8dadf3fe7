-- Blocks: their bits, and the offset word that a formed one holds. Assumes nothing.
use Prim.Native.Nat.{ℕ, zero, suc, ◌+◌, ◌-◌, ◌*◌, ◌/◌, ◌%◌, ◌^◌, ◌<◌, ◌≤◌}
use native.Mathlib.Nat.{mod-lt, lt_of_lt_of_le}
use native.Mathlib.Omega.{arith}
use mathlib.Core.Path.{◌≡◌, refl, sym, ap, ap₂, ◌∙◌}
use mathlib.Core.Bool.{cond}
use mathlib.Core.List.{◌∷◌, ◌++◌}
use lib.Bits.{bit_xor, xor_lt, xor_shifted}
use lib.Dec.{lit<, lit≤, eqb}
use lib.ListN.{length, length-append}
use lib.Pow.{high, low, shr-shr, split, field, mod-mod-pow, shr_lt, pow_pos}
use Rattle.rds_blocks.specs.declared.blocks.Offset.{Offset}
use Rattle.rds_blocks.specs.declared.blocks.Offset.TheVariants.{A, B, C, CPrime, D}
use Rattle.rds_blocks.specs.Division.{bit, remainder_of, Leaves, product}
use Rattle.rds_blocks.specs.Blocks.{word_of, check_of, checkword_of, block_of, bits_of, block_bits, offset_in}
use Rattle.rds_blocks.proofs.Exclusive.{xor_assoc, xor_twice}
use Rattle.rds_blocks.proofs.Remainders.{remainder_below, remainder}

-- ---- sizes
word_below : (o : Offset) → word_of o < 2 ^ 10
word_below A = lit< tt
word_below B = lit< tt
word_below C = lit< tt
word_below CPrime = lit< tt
word_below D = lit< tt

module _ (w : ℕ) (fits : w < 2 ^ 16) where
  shifted_below : w * 2 ^ 10 < 2 ^ 32
  shifted_below = omega (arith, fits)

  check_below : check_of w < 2 ^ 10
  check_below = remainder_below (w * 2 ^ 10) shifted_below

  checkword_below : (o : Offset) → checkword_of w o < 2 ^ 10
  checkword_below o = xor_lt 10 (check_of w) (word_of o) check_below (word_below o)

  block_below : (o : Offset) → block_of w o < 2 ^ 26
  unfolding block_of
  block_below o = omega (arith, checkword_below o, fits)

-- ---- a block from the numbers that its calls gave
module _ (w : ℕ) (o : Offset) {left offset : ℕ} (e : left ≡ check_of w) (f : offset ≡ word_of o) where
  pub block_is : w * 2 ^ 10 + bit_xor left offset ≡ block_of w o
  unfolding block_of
  block_is = ap₂ (λ (a b : ℕ). w * 2 ^ 10 + bit_xor a b) e f

  pub block_fits : w < 2 ^ 16 → w * 2 ^ 10 + bit_xor left offset < 2 ^ 32
  block_fits h = rw block_is (lt_of_lt_of_le (block_below w h o) (lit≤ tt))

-- ---- bits
-- those below place k are those of the rest by 2^k
bit_rest : (i k x : ℕ) → i < k → bit i (x % 2 ^ k) ≡ bit i x
bit_rest i k x h = ap (λ (y : ℕ). eqb y 1) (sym (field (x % 2 ^ k) 1 i) ∙ ap (λ (y : ℕ). y / 2 ^ i) rest ∙ field x 1 i)
  where
    rest : x % 2 ^ k % 2 ^ (1 + i) ≡ x % 2 ^ (1 + i)
    rest =
        let e : k - (1 + i) + (1 + i) ≡ k = omega arith in
        ap (λ (m : ℕ). x % 2 ^ m % 2 ^ (1 + i)) (sym e) ∙ mod-mod-pow x (k - (1 + i)) (1 + i)

bits_rest : (n k x : ℕ) → n ≤ k → bits_of n (x % 2 ^ k) ≡ bits_of n x
unfolding bits_of
bits_rest zero k x h = refl
bits_rest (suc n) k x h = ap₂ ◌∷◌ (bit_rest n k x (omega arith)) (bits_rest n k x (omega arith))

-- a number above place k and one below it
module _ (k hi lo : ℕ) (below : lo < 2 ^ k) where
  bit_high : (n : ℕ) → bit (k + n) (hi * 2 ^ k + lo) ≡ bit n hi
  bit_high n = ap (λ (y : ℕ). eqb (y % 2) 1) (sym (shr-shr (hi * 2 ^ k + lo) k n) ∙ ap (λ (y : ℕ). y / 2 ^ n) (high hi k below))

  bits_join : (n m : ℕ) → m ≡ k + n → bits_of m (hi * 2 ^ k + lo) ≡ bits_of n hi ++ bits_of k lo
  unfolding bits_of
  bits_join zero m e =
      let same : m ≡ k = omega arith in
      ap (λ (j : ℕ). bits_of j (hi * 2 ^ k + lo)) same
      ∙ sym (bits_rest k k (hi * 2 ^ k + lo) (omega arith))
      ∙ ap (bits_of k) (low hi k below)
  bits_join (suc n) zero e = absurd (omega (arith, e))
  bits_join (suc n) (suc m) e =
      let same : m ≡ k + n = omega (arith, e) in
      ap₂ ◌∷◌ (ap (λ (j : ℕ). bit j (hi * 2 ^ k + lo)) same ∙ bit_high n) (bits_join n m same)

pub block_bits_lem : (w : ℕ) (o : Offset) → w < 2 ^ 16 → bits_of 26 (block_of w o) ≡ block_bits w o
unfolding block_of
block_bits_lem w o h = bits_join 10 w (checkword_of w o) (checkword_below w h o) 16 26 refl

bits_length : (n x : ℕ) → length (bits_of n x) ≡ n
unfolding bits_of
bits_length zero x = refl
bits_length (suc n) x = ap suc (bits_length n x)

pub block_length : (w : ℕ) (o : Offset) → length (block_bits w o) ≡ 26
block_length w o = length-append (bits_of 16 w) (bits_of 10 (checkword_of w o)) ∙ ap₂ ◌+◌ (bits_length 16 w) (bits_length 10 (checkword_of w o))

-- ---- the offset word in a block
-- what the generator leaves of a block is the offset word that its check bits hold
pub offset_left : (x : ℕ) → x < 2 ^ 26 → remainder_of x ≡ offset_in x
offset_left x h = sym ((remainder x wide).only (offset_in x) record {
  quotient = whole.quotient;
  whole = parts ∙ ap (λ (y : ℕ). bit_xor y c) whole.whole ∙ xor_assoc (product whole.quotient) (check_of w) c;
  below = xor_lt 10 (check_of w) c (check_below w fits) under;
})
  where
    w : ℕ
    w = x / 2 ^ 10

    c : ℕ
    c = x % 2 ^ 10

    wide : x < 2 ^ 32
    wide = lt_of_lt_of_le h (lit≤ tt)

    fits : w < 2 ^ 16
    fits = shr_lt 16 10 h

    under : c < 2 ^ 10
    under = mod-lt x (pow_pos 10)

    whole : Leaves (w * 2 ^ 10) (check_of w)
    whole = (remainder (w * 2 ^ 10) (shifted_below w fits)).left

    parts : x ≡ bit_xor (w * 2 ^ 10) c
    parts = sym (split x 10) ∙ sym (xor_shifted w 10 c under)

-- a formed block holds its own
pub formed_offset : (w : ℕ) (o : Offset) → w < 2 ^ 16 → offset_in (block_of w o) ≡ word_of o
unfolding block_of
formed_offset w o h =
    let c = checkword_below w h o in
    ap₂ (λ (a b : ℕ). bit_xor (check_of a) b) (high w 10 c) (low w 10 c) ∙ xor_twice (check_of w) (word_of o)

-- an offset from its word
abbrev named : ℕ → Offset
named x = cond (eqb x (word_of A)) A (cond (eqb x (word_of B)) B (cond (eqb x (word_of C)) C (cond (eqb x (word_of CPrime)) CPrime D)))

named_word : (o : Offset) → named (word_of o) ≡ o
named_word A = refl
named_word B = refl
named_word C = refl
named_word CPrime = refl
named_word D = refl

-- the five differ, so a block holds at most one
pub one_offset : (a b : Offset) → word_of a ≡ word_of b → a ≡ b
one_offset a b e = sym (named_word a) ∙ ap named e ∙ named_word b
