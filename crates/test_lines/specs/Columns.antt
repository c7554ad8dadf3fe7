-- What stands in the columns of a line. Source: oracle/README.md, "The list of answers". Definitions only.
use Rattle.std.specs.Prelude.{ℕ, zero, suc, ◌+◌, ◌-◌, ◌*◌, ◌/◌, Bool, true, false, ◌&&◌, cond, Option, Some, None, List, [], ◌∷◌, eqb, leb, ltb, length, get_or, take, drop}
use Rattle.std.proofs.Math.Seq.{slice}

-- the value of a hexadecimal digit in ASCII, `0` to `9` and `a` to `f`, and 16 for any other byte
unfoldable pub digit_of : ℕ → ℕ
digit_of c = cond (leb 48 c && leb c 57) (c - 48) (cond (leb 97 c && leb c 102) (10 + (c - 97)) 16)

-- the number that v becomes by the digits after it
abbrev pub hex_of : ℕ → List ℕ → Option ℕ
hex_of v [] = Some v
hex_of v (c ∷ s) = cond (ltb (digit_of c) 16) (hex_of (v * 16 + digit_of c) s) None

-- the word of the 16 digits from a column on
abbrev pub word_at : List ℕ → ℕ → Option ℕ
word_at s at = cond (leb (at + 16) (length s)) (hex_of 0 (slice at (at + 16) s)) None

-- a word's value, or 0 where there is none
abbrev pub value_in : Option ℕ → ℕ
value_in (Some v) = v
value_in None = 0

abbrev pub is_word : Option ℕ → Bool
is_word (Some v) = true
is_word None = false

-- whether a column has a byte
abbrev pub has_at : List ℕ → ℕ → ℕ → Bool
has_at s at byte = ltb at (length s) && eqb (get_or s at 0) byte

-- whether a test passes at 0, 1, .., n - 1
abbrev pub all_of : (ℕ → Bool) → ℕ → Bool
all_of f zero = true
all_of f (suc n) = all_of f n && f n

-- whether the k-th word after the name stands in its columns, with a space (32) before it
abbrev pub stands_at : List ℕ → ℕ → Bool
stands_at s k = has_at s (16 + 17 * k) 32 && is_word (word_at s (16 + 17 * k + 1))

-- whether n words follow the name, and after them a new line (10)
unfoldable pub formed_of : List ℕ → ℕ → Bool
formed_of s n = all_of (stands_at s) n && has_at s (16 + 17 * n) 10

-- whether a line begins with a name
abbrev pub starts_with : List ℕ → List ℕ → Bool
starts_with s [] = true
starts_with [] (c ∷ name) = false
starts_with (b ∷ s) (c ∷ name) = eqb b c && starts_with s name

-- names stand behind each other in 16 columns each: the k-th of them
abbrev pub name_at : List ℕ → ℕ → List ℕ
name_at names k = take 16 (drop (16 * k) names)

-- the first of n numbers from k on that passes a test, or k + n where none does
abbrev pub first_of : (ℕ → Bool) → ℕ → ℕ → ℕ
first_of f k zero = k
first_of f k (suc n) = cond (f k) k (first_of f (suc k) n)

-- the number of the first name with which a line begins, or how many names there are where it begins with none
abbrev pub find_of : List ℕ → List ℕ → ℕ
find_of s names = first_of (λ k. starts_with s (name_at names k)) 0 (length names / 16)
