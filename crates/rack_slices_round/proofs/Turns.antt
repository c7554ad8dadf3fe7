-- One decoder's turn, over the format: from its block, and where nothing waits. Assumes nothing.
use Prim.Native.Nat.{ℕ, min}
use native.Mathlib.Omega.{arith}
use mathlib.Core.Path.{◌≡◌, refl, sym, ap, ◌∙◌}
use mathlib.Core.List.{List, [], ◌++◌}
use lib.ListN.{length, take, drop}
use lib.Seq.{length-take-le}
use Rattle.answers.specs.Answer.{Said, accepted, turned, lengths, kept}
use Rattle.answers.specs.Samples.{samples}
use Rattle.decoder_record.specs.State.{Pll}
use Rattle.decoder.specs.Machine.{Arithmetic, Blocked, state_at, run_of, block_says, block_of}
use Rattle.rack_waiting.specs.Beside.{over}
use Rattle.rack_round.specs.Round.{Queue, Turned, turn_of}

module _ {A : Type 0} (F : Arithmetic A) where
  -- a block on the first m samples, where m is what the decoder takes
  pub turn_is : (t : List A) (share : ℕ) (d : Pll A) (q : Queue A) (m : ℕ) {s : Said} {vy vz : List A} {p : Pll A} → m ≡ min share (length q.mpx)
      → length q.sum ≡ length q.mpx → length q.difference ≡ length q.mpx
      → length vy ≡ length (take m q.sum) → length vz ≡ length (take m q.difference)
      → record { said = s; sum = vy; difference = vz; pll = p } ≡ block_of F d t (take m q.mpx) (take m q.pilot) (take m q.sum) (take m q.difference)
      → record { taken = min share (length q.mpx); sum = vy ++ drop m q.sum; difference = vz ++ drop m q.difference; pll = p } ≡ turn_of F t share d q
  unfolding turn_of
  turn_is t share d q m {s} {vy} {vz} {p} e es ed ly lz b =
      (λ j. record {
        taken = min share (length q.mpx);
        sum = vy ++ drop (sym (long vy q.sum es ly) j) q.sum;
        difference = vz ++ drop (sym (long vz q.difference ed lz) j) q.difference;
        pll = p;
      })
      ∙ ap of b
      ∙ ap (λ (n : ℕ). of (block_of F d t (take n q.mpx) (take n q.pilot) (take n q.sum) (take n q.difference))) e
    where
      of : Blocked A → Turned A
      of o = record { taken = min share (length q.mpx); sum = over o.sum q.sum; difference = over o.difference q.difference; pll = o.pll }

      long : (v l : List A) → length l ≡ length q.mpx → length v ≡ length (take m l) → length v ≡ m
      long v l h g = g ∙ length-take-le m l (omega (arith, e, h))

  -- nothing changes where nothing waits
  pub turn_none : (t : List A) (share : ℕ) (d : Pll A) (q : Queue A) → length q.mpx ≡ 0
      → turn_of F t share d q ≡ record { taken = 0; sum = q.sum; difference = q.difference; pll = d }
  unfolding turn_of block_of run_of samples state_at
  turn_none t share d q e = ap of none ∙ go (block_says F d (length t) 0 0 0 0)
    where
      with_block : ℕ → Blocked A → Turned A
      with_block n o = record { taken = n; sum = over o.sum q.sum; difference = over o.difference q.difference; pll = o.pll }

      of : ℕ → Turned A
      of n = with_block n (block_of F d t (take n q.mpx) (take n q.pilot) (take n q.sum) (take n q.difference))

      none : min share (length q.mpx) ≡ 0
      none = omega (arith, e)

      go : (s : Said) → with_block 0 (kept s (run_of F d t [] []) (record { said = s; sum = []; difference = []; pll = d }))
          ≡ record { taken = 0; sum = q.sum; difference = q.difference; pll = d }
      go accepted = refl
      go (turned n) = refl
      go (lengths n a b) = refl
