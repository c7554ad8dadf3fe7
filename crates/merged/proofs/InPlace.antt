-- A pass over two outputs in place, which hold sum and difference and come to hold left and right. Over the
-- format, by its two sums; z stands for what is past the end. Assumes nothing.
use Prim.Native.Nat.{ℕ, ◌+◌, ◌≤◌, ◌<◌}
use native.Mathlib.Nat.{le_refl}
use native.Mathlib.Omega.{arith}
use mathlib.Core.Path.{◌≡◌, refl, ◌∙◌}
use mathlib.Core.List.{List}
use lib.ListN.{length, get_or, set}
use Rattle.answers.specs.Answer.{accepted}
use Rattle.answers.proofs.Samples.{Filled, filled_start, filled_next, filled_end}
use Rattle.answers.proofs.Passes.{Untouched, untouched_start, untouched_next}
use Rattle.matrix.specs.Matrix.{filled_by}

module _ {A : Type 0} (l r : A → A → A) (z : A) (sum difference : List A) where
  -- the first i samples are turned, and the others stand as they were
  pub record Turning (i : ℕ) (left right : List A) : Type 0 where
    pub below : i ≤ length sum
    pub lefts : Filled (length sum) (λ k. l (get_or sum k z) (get_or difference k z)) i left
    pub rights : Filled (length sum) (λ k. r (get_or sum k z) (get_or difference k z)) i right
    pub sums : Untouched z sum i left
    pub differences : Untouched z difference i right

  pub turning_start : length difference ≡ length sum → Turning 0 sum difference
  turning_start h = record { below = omega arith; lefts = filled_start refl; rights = filled_start h; sums = untouched_start; differences = untouched_start }

  module _ {i : ℕ} {left right : List A} (w : Turning i left right) where
    -- what is read lies within both
    pub also_right : i < length sum → i < length right
    also_right h = omega (arith, w.rights.size)

    -- one more sample: x and y are left and right of the i-th sum and difference, which still stand
    pub turning_next : {x y : A} → i < length sum → x ≡ l (get_or left i z) (get_or right i z) → y ≡ r (get_or left i z) (get_or right i z)
        → Turning (i + 1) (set left i x) (set right i y)
    turning_next {x} {y} h ex ey =
        let s = w.sums.rest i (le_refl i) in
        let d = w.differences.rest i (le_refl i) in
        record {
          below = omega (arith, h);
          lefts = filled_next w.lefts h (ex ∙ rw (s, d));
          rights = filled_next w.rights h (ey ∙ rw (s, d));
          sums = untouched_next w.sums x;
          differences = untouched_next w.differences y;
        }

    pub turning_end : length sum ≤ i → record { said = accepted; left = left; right = right } ≡ filled_by l r z sum difference
    turning_end h = rw (filled_end w.lefts w.below h, filled_end w.rights w.below h)
