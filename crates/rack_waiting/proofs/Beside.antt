-- Lists pair by pair, and a list over the front of another. Assumes nothing.
use Prim.Native.Nat.{ℕ, zero, suc, ◌+◌, ◌-◌, ◌≤◌, ◌<◌, min}
use native.Mathlib.Nat.{zero-min, suc-min-suc}
use native.Mathlib.Numerals.{add-one}
use native.Mathlib.Omega.{arith}
use mathlib.Core.Path.{◌≡◌, refl, sym, ap, ◌∙◌}
use mathlib.Core.List.{List, [], ◌∷◌, ◌++◌, append_assoc}
use lib.ListN.{length, take, drop, get_or, set, length-append, length-drop}
use lib.Seq.{take-nil, drop-cons, drop-nil, set_at}
use Rattle.rack_waiting.specs.Beside.{beside, over}

module _ {A B C : Type 0} (f : A → B → C) where
  -- from place k on
  pub beside_next : (n k : ℕ) (xs : List A) (ys : List B) (x : A) (y : B) → k < n → k < length xs → k < length ys
      → beside f (n - k) (drop k xs) (drop k ys) ≡ f (get_or xs k x) (get_or ys k y) ∷ beside f (n - (k + 1)) (drop (k + 1) xs) (drop (k + 1) ys)
  unfolding beside
  beside_next n k xs ys x y hn hx hy =
      let e : n - k ≡ suc (n - (k + 1)) = omega arith in rw (e, drop-cons xs k x, drop-cons ys k y, add-one k)

  -- one more
  pub beside_more : (k : ℕ) (xs : List A) (ys : List B) (x : A) (y : B) → k < length xs → k < length ys
      → beside f (suc k) xs ys ≡ beside f k xs ys ++ (f (get_or xs k x) (get_or ys k y) ∷ [])
  unfolding beside
  beside_more k [] ys x y hx hy = absurd (omega arith)
  beside_more k (v ∷ xs) [] x y hx hy = absurd (omega arith)
  beside_more zero (v ∷ xs) (w ∷ ys) x y hx hy = refl
  beside_more (suc k) (v ∷ xs) (w ∷ ys) x y hx hy = ap (λ (l : List C). f v w ∷ l) (beside_more k xs ys x y (omega arith) (omega arith))

  pub length_beside : (n : ℕ) (xs : List A) (ys : List B) → n ≤ length xs → n ≤ length ys → length (beside f n xs ys) ≡ n
  unfolding beside
  length_beside zero xs ys hx hy = refl
  length_beside (suc n) [] ys hx hy = absurd (omega arith)
  length_beside (suc n) (v ∷ xs) [] hx hy = absurd (omega arith)
  length_beside (suc n) (v ∷ xs) (w ∷ ys) hx hy = ap suc (length_beside n xs ys (omega arith) (omega arith))

module _ {A : Type 0} where
  -- a part that would pass the end
  pub take_cut : (m : ℕ) (l : List A) → take m l ≡ take (min m (length l)) l
  take_cut zero l = rw (zero-min (length l))
  take_cut (suc m) [] = sym (take-nil (min (suc m) 0))
  take_cut (suc m) (x ∷ xs) = rw (suc-min-suc m (length xs), ← take_cut m xs)

  pub drop_cut : (m : ℕ) (l : List A) → drop m l ≡ drop (min m (length l)) l
  drop_cut zero l = rw (zero-min (length l))
  drop_cut (suc m) [] = sym (drop-nil (min (suc m) 0))
  drop_cut (suc m) (x ∷ xs) = rw (suc-min-suc m (length xs), ← drop_cut m xs)

  pub over_length : (u l : List A) → length u ≤ length l → length (over u l) ≡ length l
  over_length u l h = simp (length-append, length-drop) (omega arith)

  -- one element more
  pub over_set : (u l : List A) (x : A) (k : ℕ) → length u ≡ k → k < length l → set (over u l) k x ≡ over (u ++ (x ∷ [])) l
  over_set u l x k e h =
      ap (λ (z : List A). set (u ++ z) k x) (ap (λ (n : ℕ). drop n l) e ∙ drop-cons l k x h)
      ∙ set_at u (get_or l k x) (drop (suc k) l) x k e
      ∙ sym (ap (λ (n : ℕ). (u ++ (x ∷ [])) ++ drop n l) (long (length u) e) ∙ append_assoc u (x ∷ []) (drop (suc k) l))
    where
      long : (n : ℕ) → n ≡ k → length (u ++ (x ∷ [])) ≡ suc k
      long n q = omega (arith, length-append u (x ∷ []), e)

  -- .. which is the one that stands there
  pub over_same : (u l : List A) (z : A) (k : ℕ) → length u ≡ k → k < length l → over (u ++ (get_or l k z ∷ [])) l ≡ over u l
  over_same u l z k e h = ap (λ (n : ℕ). over (u ++ (get_or l n z ∷ [])) l) (sym e) ∙ at u l (omega (arith, e))
    where
      at : (u l : List A) → length u < length l → over (u ++ (get_or l (length u) z ∷ [])) l ≡ over u l
      at [] [] h = absurd (omega arith)
      at [] (b ∷ l) h = refl
      at (a ∷ u) [] h = absurd (omega arith)
      at (a ∷ u) (b ∷ l) h = ap (λ (m : List A). a ∷ m) (at u l (omega arith))
