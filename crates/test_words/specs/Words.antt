-- A value and the word of 64 bits that stands for it in a list. Source: oracle/README.md, "The list of
-- answers". Definitions only.
-- A float's word is its pattern, the kit's `to_bits`, which has one pattern for every NaN; the kit's `of_bits`
-- takes it back, and each NaN's pattern to the one NaN.
use Rattle.std.specs.Prelude.{ℕ, ◌-◌, ◌%◌, ◌^◌, Bool, cond, eqb, ltb, ℤ, pos, ◌-ℤ◌}
use Rattle.numbers.specs.Integers.{mod_z}

-- a whole number's word: its two's complement, with the sign in all the bits above
abbrev pub word_of : ℤ → ℕ
word_of z = mod_z z (2 ^ 64)

-- the last b bits of a word in two's complement: the upper half of the 2^b patterns is negative
unfoldable pub signed_of : ℕ → ℕ → ℤ
signed_of b w = let low = w % 2 ^ b in cond (ltb low (2 ^ (b - 1))) (pos low) (pos low -ℤ pos (2 ^ b))

-- whether a word is that of a signed number of b bits
abbrev pub is_signed : ℕ → ℕ → Bool
is_signed b w = eqb (word_of (signed_of b w)) w
