-- Lists pair by pair, and a list over the front of another. Definitions only.
use Rattle.std.specs.Prelude.{ℕ, zero, suc, List, [], ◌∷◌, ◌++◌, length, drop}

-- f of the first n pairs of two lists
unfoldable pub beside : {A B C : Type 0} → (A → B → C) → ℕ → List A → List B → List C
beside f zero xs ys = []
beside f (suc n) [] ys = []
beside f (suc n) (x ∷ xs) [] = []
beside f (suc n) (x ∷ xs) (y ∷ ys) = f x y ∷ beside f n xs ys

-- new in place of the front of old, as far as it goes
abbrev pub over : {A : Type 0} → List A → List A → List A
over new old = new ++ drop (length new) old
