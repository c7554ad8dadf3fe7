-- RDS blocks: a word and its checkword. Source: document 02, request 2; IEC 62106. Definitions only.
use Rattle.std.specs.Prelude.{ℕ, zero, suc, ◌+◌, ◌*◌, ◌/◌, ◌%◌, ◌^◌, Bool, List, [], ◌∷◌, ◌++◌}
use Rattle.std.specs.Int.Bits.{bit_xor}
use Rattle.rds_blocks.specs.declared.blocks.Offset.{Offset}
use Rattle.rds_blocks.specs.declared.blocks.Offset.TheVariants.{A, B, C, CPrime, D}
use Rattle.rds_blocks.specs.Division.{bit, remainder_of}

-- three hexadecimal digits
abbrev hex : ℕ → ℕ → ℕ → ℕ
hex a b c = a * 16 ^ 2 + b * 16 + c

-- the offset words; `CPrime` is the one that is written C'
abbrev pub word_of : Offset → ℕ
word_of A = hex 0 15 12
word_of B = hex 1 9 8
word_of C = hex 1 6 8
word_of CPrime = hex 3 5 0
word_of D = hex 1 11 4

-- a word's check: what the generator leaves of the word times z^10
abbrev pub check_of : ℕ → ℕ
check_of w = remainder_of (w * 2 ^ 10)

abbrev pub checkword_of : ℕ → Offset → ℕ
checkword_of w o = bit_xor (check_of w) (word_of o)

-- a block: the word, and below it its checkword
unfoldable pub block_of : ℕ → Offset → ℕ
block_of w o = w * 2 ^ 10 + checkword_of w o

-- the n lowest bits of x, the highest first
unfoldable pub bits_of : ℕ → ℕ → List Bool
bits_of zero x = []
bits_of (suc n) x = bit n x ∷ bits_of n x

-- a block's bits: the word's, then the checkword's
abbrev pub block_bits : ℕ → Offset → List Bool
block_bits w o = bits_of 16 w ++ bits_of 10 (checkword_of w o)

-- ---- a block that was received
-- the offset word that its ten check bits hold, by the check of its word
abbrev pub offset_in : ℕ → ℕ
offset_in x = bit_xor (check_of (x / 2 ^ 10)) (x % 2 ^ 10)
