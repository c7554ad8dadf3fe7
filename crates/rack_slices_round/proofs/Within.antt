-- Slices with new ones in place of the first, over the element type. Assumes nothing.
use Prim.Native.Nat.{ℕ, zero, suc}
use mathlib.Core.Path.{◌≡◌, refl, sym, ap, ◌∙◌}
use mathlib.Core.List.{List, [], ◌∷◌, ◌++◌, map, map-append, append-nil}
use lib.ListN.{length, get_or, set}
use lib.Seq.{drop-nil}
use Rattle.answers.specs.Samples.{samples}
use Rattle.answers.proofs.Passes.{length_samples}
use Rattle.rack_waiting.specs.Beside.{over}
use Rattle.rack_slices_round.specs.Slices.{within}

pub map_samples : {B C : Type 0} (f : B → C) (n : ℕ) (g : ℕ → B) → map f (samples n g) ≡ samples n (λ k. f (g k))
unfolding samples
map_samples f zero g = refl
map_samples {C = C} f (suc n) g = map-append f (samples n g) (g n ∷ []) ∙ ap (λ (m : List C). m ++ (f (g n) ∷ [])) (map_samples f n g)

module _ {A : Type 0} where
  pub within_none : (l : List (List A)) → within [] l ≡ l
  within_none [] = refl
  within_none (b ∷ l) = refl

  pub within_length : (u l : List (List A)) → length (within u l) ≡ length l
  within_length [] l = ap length (within_none l)
  within_length (a ∷ u) [] = refl
  within_length (a ∷ u) (b ∷ l) = ap suc (within_length u l)

  -- the first that is not replaced
  pub within_get : (u l : List (List A)) (k : ℕ) (z : List A) → length u ≡ k → get_or (within u l) k z ≡ get_or l k z
  within_get u l k z e = ap (λ (n : ℕ). get_or (within u l) n z) (sym e) ∙ at u l ∙ ap (λ (n : ℕ). get_or l n z) e
    where
      at : (u l : List (List A)) → get_or (within u l) (length u) z ≡ get_or l (length u) z
      at [] l = ap (λ (m : List (List A)). get_or m 0 z) (within_none l)
      at (a ∷ u) [] = refl
      at (a ∷ u) (b ∷ l) = at u l

  -- one more: it is written, or it is the one that stands there
  pub within_set : (u l : List (List A)) (x : List A) (k : ℕ) → length u ≡ k → set (within u l) k x ≡ within (u ++ (x ∷ [])) l
  within_set u l x k e = ap (λ (n : ℕ). set (within u l) n x) (sym e) ∙ at u l
    where
      at : (u l : List (List A)) → set (within u l) (length u) x ≡ within (u ++ (x ∷ [])) l
      at [] [] = refl
      at [] (b ∷ l) = ap (λ (m : List (List A)). x ∷ m) (sym (within_none l))
      at (a ∷ u) [] = refl
      at (a ∷ u) (b ∷ l) = ap (λ (m : List (List A)). a ∷ m) (at u l)

  pub within_same : (u l : List (List A)) (z : List A) (k : ℕ) → length u ≡ k → within (u ++ (get_or l k z ∷ [])) l ≡ within u l
  within_same u l z k e = ap (λ (n : ℕ). within (u ++ (get_or l n z ∷ [])) l) (sym e) ∙ at u l
    where
      at : (u l : List (List A)) → within (u ++ (get_or l (length u) z ∷ [])) l ≡ within u l
      at [] [] = refl
      at [] (b ∷ l) = ap (λ (m : List (List A)). b ∷ m) (within_none l)
      at (a ∷ u) [] = refl
      at (a ∷ u) (b ∷ l) = ap (λ (m : List (List A)). a ∷ m) (at u l)

  within_over : (u v l : List (List A)) → within (over u v) l ≡ within u (within v l)
  within_over [] v l = sym (within_none (within v l))
  within_over (a ∷ u) [] l =
      ap (λ (m : List (List A)). within m l) (ap (λ (m : List (List A)). (a ∷ u) ++ m) (drop-nil (suc (length u))) ∙ append-nil (a ∷ u))
      ∙ ap (within (a ∷ u)) (sym (within_none l))
  within_over (a ∷ u) (b ∷ v) [] = refl
  within_over (a ∷ u) (b ∷ v) (c ∷ l) = ap (λ (m : List (List A)). a ∷ m) (within_over u v l)

  -- the slices themselves, one that is not there as z
  within_own : (n : ℕ) (g : ℕ → List A) (l : List (List A)) (z : List A) → ((k : ℕ) → g k ≡ get_or l k z) → within (samples n g) l ≡ l
  unfolding samples
  within_own zero g l z e = within_none l
  within_own (suc n) g l z e =
      ap (λ (x : List A). within (samples n g ++ (x ∷ [])) l) (e n)
      ∙ within_same (samples n g) l z n (length_samples n g)
      ∙ within_own n g l z e

  -- past the new ones stand the slices themselves
  pub within_queues : {B : Type 0} (f : B → List A) (n : ℕ) (g : ℕ → B) (u l : List (List A)) (z : List A)
      → ((k : ℕ) → f (g k) ≡ get_or l k z) → within u l ≡ within (over u (map f (samples n g))) l
  within_queues f n g u l z e =
      ap (within u) (sym (ap (λ (m : List (List A)). within m l) (map_samples f n g) ∙ within_own n (λ k. f (g k)) l z e))
      ∙ sym (within_over u (map f (samples n g)) l)
