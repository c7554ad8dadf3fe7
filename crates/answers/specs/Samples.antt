-- A block's samples, in order. Definitions only.
use Rattle.std.specs.Prelude.{ℕ, zero, suc, List, [], ◌∷◌, ◌++◌}

-- f 0, f 1, .., f (n - 1)
unfoldable pub samples : {A : Type 0} → ℕ → (ℕ → A) → List A
samples zero f = []
samples (suc n) f = samples n f ++ (f n ∷ [])
