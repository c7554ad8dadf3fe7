-- A pass over an output that holds what the pass before left there: what is not yet written stands as it was,
-- and each sample of a pass is made of that of the pass before. Over the element type. Assumes nothing.
use Prim.Native.Nat.{ℕ, zero, suc, ◌+◌, ◌≤◌, ◌<◌}
use mathlib.Core.Path.{◌≡◌, refl, ap, ◌∙◌}
use mathlib.Core.Bool.{Bool, true, false}
use mathlib.Core.List.{List, [], ◌∷◌, ◌++◌}
use native.Mathlib.Omega.{arith}
use borrow.Author.Tests.{ltb-true, ltb-false}
use lib.Dec.{ltb}
use lib.ListN.{length, get_or, set, length-append, get_or-append}
use lib.Seq.{get_or-set_other, get_or_at}
use Rattle.answers.specs.Samples.{samples}

module _ {A : Type 0} where
  -- from i on, out is as old was; z stands for what is past the end
  pub record Untouched (z : A) (old : List A) (i : ℕ) (out : List A) : Type 0 where
    pub rest : (k : ℕ) → i ≤ k → get_or out k z ≡ get_or old k z

  pub untouched_start : {z : A} {old : List A} {i : ℕ} → Untouched z old i old
  untouched_start = record { rest = λ k h. refl }

  pub untouched_next : {z : A} {old out : List A} {i : ℕ} → Untouched z old i out → (v : A) → Untouched z old (i + 1) (set out i v)
  untouched_next {z} {old} {out} {i} w v = record { rest = λ k h. get_or-set_other out i k v z (past i k h) ∙ w.rest k (omega arith) }
    where
      past : (i k : ℕ) → i + 1 ≤ k → k ≡ i → ⊥
      past i k h e = omega arith

  pub length_samples : (n : ℕ) (f : ℕ → A) → length (samples n f) ≡ n
  unfolding samples
  length_samples zero f = refl
  length_samples (suc n) f = omega (arith, length-append (samples n f) (f n ∷ []), length_samples n f)

  pub sample_at : (n : ℕ) (f : ℕ → A) (z : A) (i : ℕ) → i < n → get_or (samples n f) i z ≡ f i
  unfolding samples
  sample_at zero f z i h = absurd (none i h)
    where
      none : (i : ℕ) → i < 0 → ⊥
      none i h = omega arith
  sample_at (suc n) f z i h = by (ltb i n) refl (sample_at n f z i)
    where
      by : (t : Bool) → ltb i n ≡ t → (i < n → get_or (samples n f) i z ≡ f i) → get_or (samples n f ++ (f n ∷ [])) i z ≡ f i
      by true e earlier = get_or-append (samples n f) (f n ∷ []) z i (omega (arith, ltb-true i n e, length_samples n f)) ∙ earlier (ltb-true i n e)
      by false e earlier =
          let last : n ≡ i = omega (arith, ltb-false i n e) in
          get_or_at (samples n f) (f n) [] z i (length_samples n f ∙ last) ∙ ap f last

  pub same_samples : (n : ℕ) (f g : ℕ → A) → ((i : ℕ) → i < n → f i ≡ g i) → samples n f ≡ samples n g
  unfolding samples
  same_samples zero f g h = refl
  same_samples (suc n) f g h = rw (same_samples n f g (λ i l. h i (omega arith)), h n (omega arith))

  -- a pass h after one that left f
  pub pass_after : (n : ℕ) (f : ℕ → A) (h : ℕ → A → A) (z : A) {old : List A} → old ≡ samples n f → samples n (λ i. h i (get_or old i z)) ≡ samples n (λ i. h i (f i))
  pass_after n f h z e = rw e (same_samples n (λ i. h i (get_or (samples n f) i z)) (λ i. h i (f i)) (λ i l. ap (h i) (sample_at n f z i l)))
