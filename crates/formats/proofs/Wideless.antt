-- The count of a block whose corrections have no wide way, over the format. Assumes nothing.
use Prim.Native.Nat.{ℕ, zero, suc}
use mathlib.Core.Path.{◌≡◌, refl, ap, ◌∙◌}
use mathlib.Core.Bool.{false, cond}
use mathlib.Core.List.{List}
use lib.ListN.{length}
use native.Mathlib.Omega.{arith}
use Rattle.answers.specs.Answer.{Said, accepted, turned, lengths, accepts}
use Rattle.counted.specs.Counted.{carried}
use Rattle.decoder_record.specs.State.{Pll}
use Rattle.decoder.specs.Machine.{Arithmetic, Blocked, run_of, block_says, block_of}
use Rattle.decoder_fast.specs.Wide.{wide_up_to, block_count}

module _ {A : Type 0} (F : Arithmetic A) (t mpx pilot : List A) (d : Pll A) where
  never : (n : ℕ) → wide_up_to F (λ f. false) t mpx pilot d n ≡ 0
  unfolding wide_up_to
  never zero = refl
  never (suc n) = let e = never n in omega (arith, e)

  block_said : (sum difference : List A) → (block_of F d t mpx pilot sum difference).said ≡ block_says F d (length t) (length mpx) (length pilot) (length sum) (length difference)
  unfolding block_of run_of
  block_said sum difference = go (block_says F d (length t) (length mpx) (length pilot) (length sum) (length difference))
    where
      go : (s : Said) → (cond (accepts s) (run_of F d t mpx pilot) (record { said = s; sum = sum; difference = difference; pll = d })).said ≡ s
      go accepted = refl
      go (turned n) = refl
      go (lengths n x y) = refl

  -- of a block that answered s and left these
  pub none_counted : (sum difference : List A) {s : Said} {sums differences : List A} {next : Pll A}
      → record { said = s; sum = sums; difference = differences; pll = next } ≡ block_of F d t mpx pilot sum difference
      → carried s 0 ≡ block_count F (λ f. false) d t mpx pilot sum difference
  unfolding block_count
  none_counted sum difference b = rw (ap (λ (x : Blocked A). x.said) b ∙ block_said sum difference, never (length mpx))
