-- The counts of a round whose f32 decoders have slices of their own: one place of the loop. Assumes nothing.
use Prim.Native.Nat.{ℕ, ◌+◌, ◌≤◌, ◌<◌}
use native.Mathlib.Omega.{arith}
use mathlib.Core.Path.{◌≡◌, sym, ap, ◌∙◌}
use mathlib.Core.List.{List, [], map}
use Rattle.std.specs.Borrow.{Bor, MutBor}
use lib.ListN.{length, get_or, set}
use lib.Ieee.{Float}
use Rattle.answers.proofs.Passes.{sample_at}
use Rattle.decoder_record.specs.State.{Pll}
use Rattle.decoder.specs.F32.{f32}
use Rattle.rack_waiting.specs.declared.Waiting.{Waiting}
use Rattle.rack_round.specs.Round.{Queue}
use Rattle.rack_round.specs.Wide.{turn_wide}
use Rattle.rack_round.proofs.Working.{none}
use Rattle.rack_round.proofs.Wide.{Wides, wides_as, wides_next, wides_past}
use Rattle.rack_slices_round.specs.Slices.{Slices, queue_at, queues_at}
use Rattle.rack_slices_round.proofs.Lending.{nothing, slices_in, Lending, place, wait, lent, lent_own}

module _ {D : Type 0} {pll : D → Pll Float} {share number k : ℕ} {t : List Float} {ds₀ ds : List D} {x p : List (Bor (List Float))} {y₀ z₀ y z : List (MutBor (List Float))} {ws : List Waiting} {wide : List ℕ}
    (j : Wides share t (map pll ds₀) (queues_at (slices_in x p y₀ z₀)) k wide) (i : Lending f32 pll share t ds₀ x p y₀ z₀ ws number k y z ds) (h : k < number) (d : D) where
  abbrev s : Slices Float
  s = slices_in x p y₀ z₀

  own : get_or (queues_at s) k none ≡ queue_at s k
  own = sample_at 8 (queue_at s) none k (place i h)

  -- the decoder at k has its turn
  pub wides_turned : (g : 0 < (get_or ws k nothing).mpx) {v : ℕ} {wide' : List ℕ} → v ≡ turn_wide t share (pll (get_or ds k d)) (lent i h g) → wide' ≡ set wide k v
      → Wides share t (map pll ds₀) (queues_at s) (k + 1) wide'
  wides_turned g ev ew =
      wides_as (wides_next j (place i h) (pll d) none
      (ev ∙ lent_own i h g (turn_wide t share) d ∙ ap (turn_wide t share (get_or (map pll ds₀) k (pll d))) (sym own))) ew

  -- nothing waits for it
  pub wides_passed : (get_or ws k nothing).mpx ≤ 0 → {wide' : List ℕ} → wide' ≡ wide → Wides share t (map pll ds₀) (queues_at s) (k + 1) wide'
  wides_passed g ew =
      let e : length (get_or s.mpx k []) ≡ 0 = omega (arith, g, wait i h) in
      wides_as (wides_past j (place i h) (pll d) none (ap (λ (q : Queue Float). length q.mpx) own ∙ e)) ew
