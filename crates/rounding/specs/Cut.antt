-- A number cut at a place, by what falls off: the one account of rounding that floor, half-even, the
-- conversions and `round_shift` share.
-- Sources: IEEE 754-2019, 4.3.1 (roundTiesToEven) and 4.3.2 (roundTowardNegative); document 01, "Number
-- helpers". Definitions only.
use Rattle.std.specs.Prelude.{ℕ, ◌+◌, ◌*◌, ◌/◌, ◌%◌, ◌≤◌, ◌<◌, Bool, true, false, not, cond, ◌⊎◌, ◌≡◌, eqb, ltb}

-- what falls off, against a half of the place
pub data Rest : Type 0 where
  none less half more : Rest

-- rem of den, where rem is below den
unfoldable pub rest_of : ℕ → ℕ → Rest
rest_of rem den = cond (eqb rem 0) none (cond (ltb (rem * 2) den) less (cond (eqb (rem * 2) den) half more))

-- the same by digits: the first that falls off, and whether a later one is set
abbrev pub rest_by : Bool → Bool → Rest
rest_by false false = none
rest_by false true = less
rest_by true false = half
rest_by true true = more

-- `downward`: towards minus infinity. `halfEven`: to the nearest, a half to the even number. `halfUp`: to the
-- nearest, a half towards plus infinity.
pub data Rule : Type 0 where
  downward halfEven halfUp : Rule

-- whether the size grows by one: by the sign (true is negative), by whether the size that is kept is odd, and
-- by what falls off
abbrev pub grows : Rule → Bool → Bool → Rest → Bool
grows r neg odd none = false
grows downward neg odd less = neg
grows downward neg odd half = neg
grows downward neg odd more = neg
grows halfEven neg odd less = false
grows halfEven neg odd half = odd
grows halfEven neg odd more = true
grows halfUp neg odd less = false
grows halfUp neg odd half = not neg
grows halfUp neg odd more = true

-- the size of the whole number that ±num/den becomes, for a den above 0
unfoldable pub cut_by : Rule → Bool → ℕ → ℕ → ℕ
cut_by r neg num den = num / den + cond (grows r neg (eqb (num / den % 2) 1) (rest_of (num % den) den)) 1 0

-- ---- what the rules mean, said of the number alone; proofs/Cut.antt shows that `cut_by` gives it

-- ±n is the greatest whole number that is not above ±num/den: ±n ≤ ±num/den < ±n + 1
abbrev pub Greatest : Bool → ℕ → ℕ → ℕ → Type 0
Greatest false num den n = (n * den ≤ num) × (num < n * den + den)
Greatest true num den n = (num ≤ n * den) × (n * den < num + den)

-- n is within a half of num/den, and even where it is a half away
abbrev pub Nearest : ℕ → ℕ → ℕ → Type 0
Nearest num den n =
    (n * den * 2 ≤ num * 2 + den)
    × (num * 2 ≤ n * den * 2 + den)
    × (((n * den * 2 ≡ num * 2 + den) ⊎ (num * 2 ≡ n * den * 2 + den)) → n % 2 ≡ 0)

-- ±n is within a half of ±num/den, and at a half the one above it
abbrev pub NearestUp : Bool → ℕ → ℕ → ℕ → Type 0
NearestUp false num den n = (n * den * 2 ≤ num * 2 + den) × (num * 2 < n * den * 2 + den)
NearestUp true num den n = (num * 2 ≤ n * den * 2 + den) × (n * den * 2 < num * 2 + den)
