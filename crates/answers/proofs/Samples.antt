-- A loop that writes its i-th output, over the element type: once all are written, the output is the
-- definition's list. Assumes nothing.
use Prim.Native.Nat.{ℕ, ◌+◌, ◌≤◌, ◌<◌}
use mathlib.Core.Path.{◌≡◌, refl, sym, ap, ◌∙◌}
use mathlib.Core.List.{List}
use native.Mathlib.Numerals.{add-one}
use native.Mathlib.Omega.{arith}
use lib.ListN.{length, take, set, length-set}
use lib.Seq.{take-suc-set, take_all}
use Rattle.answers.specs.Samples.{samples}

-- the first i of n samples are written
pub record Filled {A : Type 0} (n : ℕ) (f : ℕ → A) (i : ℕ) (out : List A) : Type 0 where
  pub size : length out ≡ n
  pub done : take i out ≡ samples i f

module _ {A : Type 0} {n : ℕ} {f : ℕ → A} where
  pub filled_start : {out : List A} → length out ≡ n → Filled n f 0 out
  unfolding samples
  filled_start h = record { size = h; done = refl }

  pub filled_next : {i : ℕ} {out : List A} {v : A} → Filled n f i out → i < n → v ≡ f i → Filled n f (i + 1) (set out i v)
  unfolding samples
  filled_next {i} {out} {v} w h e = record {
    size = length-set out i v ∙ w.size;
    done = rw (add-one i, take-suc-set out i v (omega (arith, w.size)), w.done, e);
  }

  pub filled_end : {i : ℕ} {out : List A} → Filled n f i out → i ≤ n → n ≤ i → out ≡ samples n f
  filled_end {i} {out} w h k =
      let e : i ≡ n = omega arith in
      sym (take_all i out (omega (arith, w.size))) ∙ w.done ∙ ap (λ (z : ℕ). samples z f) e
