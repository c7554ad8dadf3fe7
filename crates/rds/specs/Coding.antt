-- Differential coding of bits. Source: document 02, requests 2 and 13; IEC 62106. Definitions only.
use Rattle.std.specs.Prelude.{ℕ, Bool, cond, not, List, [], ◌∷◌, map, eqb}

-- the exclusive-or of two bits
abbrev pub differs : Bool → Bool → Bool
differs a b = cond a (not b) b

-- each bit exclusive-or the output bit before it
abbrev pub coded : Bool → List Bool → List Bool
coded previous [] = []
coded previous (b ∷ bits) = differs previous b ∷ coded (differs previous b) bits

-- the last of the bits, or where there are none the one before them
abbrev pub last_of : Bool → List Bool → Bool
last_of previous [] = previous
last_of previous (b ∷ bits) = last_of b bits

-- undone: each bit exclusive-or the one before it
abbrev pub undone : Bool → List Bool → List Bool
undone previous [] = []
undone previous (b ∷ bits) = differs previous b ∷ undone b bits

-- ---- as bytes
abbrev pub byte_of : Bool → ℕ
byte_of b = cond b 1 0

abbrev pub bit_in : ℕ → Bool
bit_in byte = eqb byte 1

-- what goes out, a bit a byte, and the last output bit
pub record Sent : Type 0 where
  pub output : List ℕ
  pub carried : Bool

abbrev pub sent_of : Bool → List Bool → Sent
sent_of previous bits =
    record { output = map byte_of (coded previous bits); carried = last_of previous (coded previous bits) }
