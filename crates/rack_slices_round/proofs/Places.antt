-- Places of lists of slices: those that are there, and those past the end. Assumes nothing.
use Prim.Native.Nat.{ℕ, zero, suc, ◌≤◌, ◌<◌}
use native.Mathlib.Omega.{arith}
use mathlib.Core.Path.{◌≡◌, refl, sym, ap, ◌∙◌}
use mathlib.Core.Logic.{◌⊎◌, ⊎_elim}
use mathlib.Core.List.{List, [], ◌∷◌, map}
use lib.ListN.{length, get_or, length-map}

-- what f makes of an element that is there
pub there : {A B : Type 0} (f : A → B) (l : List A) (k : ℕ) (d : A) (e : B) → k < length l → get_or (map f l) k e ≡ f (get_or l k d)
there f [] k d e h = absurd (omega arith)
there f (x ∷ l) zero d e h = refl
there f (x ∷ l) (suc k) d e h = there f l k d e (omega arith)

-- .. and past the end
pub not_there : {A B : Type 0} (f : A → B) (l : List A) (k : ℕ) (e : B) → length l ≤ k → get_or (map f l) k e ≡ e
not_there f [] k e h = refl
not_there f (x ∷ l) zero e h = absurd (omega arith)
not_there f (x ∷ l) (suc k) e h = not_there f l k e (omega arith)

-- a slice that is not empty is there
pub is_there : {A B : Type 0} (f : A → List B) (l : List A) (k : ℕ) → 0 < length (get_or (map f l) k []) → k < length l
is_there f [] k h = absurd (omega arith)
is_there f (x ∷ l) zero h = omega arith
is_there f (x ∷ l) (suc k) h = omega (arith, is_there f l k h)

-- as many as before
pub as_many : {A B : Type 0} (f : A → B) (l m : List A) → length (map f m) ≡ length (map f l) → length m ≡ length l
as_many f l m e = sym (length-map m f) ∙ e ∙ length-map l f

-- how long a slice is, and 0 past the end, by the two ways of a test
pub long_at : {A B P Q : Type 0} (f : A → List B) (l : List A) (k : ℕ) (d : A) {n : ℕ} → (P → k < length l) → (Q → length l ≤ k)
    → (P × (n ≡ length (f (get_or l k d)))) ⊎ (Q × (n ≡ 0)) → n ≡ length (get_or (map f l) k [])
long_at f l k d in-it past =
    ⊎_elim
    (λ h. h.1 ∙ ap length (sym (there f l k d [] (in-it h.0))))
    (λ h. h.1 ∙ ap length (sym (not_there f l k [] (past h.0))))
