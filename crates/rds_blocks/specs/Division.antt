-- Division over bits, by which RDS checks a word. A polynomial in z is a number: the coefficient of z^k is its bit k.
-- Sum and difference of two are both their exclusive-or. Source: document 02, request 2; IEC 62106. Definitions only.
use Rattle.std.specs.Prelude.{ℕ, zero, suc, ◌+◌, ◌*◌, ◌/◌, ◌%◌, ◌^◌, ◌<◌, ◌≡◌, Bool, cond, List, [], ◌∷◌, eqb, length}
use Rattle.std.specs.Int.Bits.{bit_xor}

-- whether x has the place z^k
abbrev pub bit : ℕ → ℕ → Bool
bit k x = eqb (x / 2 ^ k % 2) 1

-- the generator
abbrev pub generator : ℕ
generator = 2 ^ 10 + 2 ^ 8 + 2 ^ 7 + 2 ^ 5 + 2 ^ 4 + 2 ^ 3 + 1

-- one step of a long division: where x has the place z^(n + 10), the generator times z^n is taken from it
abbrev pub lessened : ℕ → ℕ → ℕ
lessened n x = cond (bit (n + 10) x) (bit_xor x (generator * 2 ^ n)) x

-- its n steps, the highest place first
unfoldable pub divided_from : ℕ → ℕ → ℕ
divided_from zero x = x
divided_from (suc n) x = divided_from n (lessened n x)

-- what the generator leaves of a number of 32 places
unfoldable pub remainder_of : ℕ → ℕ
remainder_of x = divided_from 22 x

-- ---- what a remainder is
-- a quotient, by its coefficients, the highest first, times the generator
abbrev pub product : List Bool → ℕ
product [] = 0
product (b ∷ q) = bit_xor (cond b (generator * 2 ^ length q) 0) (product q)

-- x is some quotient times the generator, and r, which has ten places
pub record Leaves (x r : ℕ) : Type 0 where
  pub quotient : List Bool
  pub whole : x ≡ bit_xor (product quotient) r
  pub below : r < 2 ^ 10

-- .. and no other r is left
pub record Remainder (x r : ℕ) : Type 0 where
  pub left : Leaves x r
  pub only : (s : ℕ) → Leaves x s → s ≡ r
