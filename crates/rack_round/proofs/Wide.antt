-- The counts of a round of f32 decoders, for any queues: one turn's, the loop that fills them place by place, and the
-- ways out of a round. Assumes nothing.
use Prim.Native.Nat.{ℕ, ◌+◌, ◌-◌, ◌/◌, ◌≤◌, ◌<◌, min}
use native.Mathlib.Numerals.{add-one}
use native.Mathlib.Omega.{arith}
use mathlib.Core.Path.{◌≡◌, refl, sym, ap, ◌∙◌}
use mathlib.Core.Bool.{Bool, true, false, cond}
use mathlib.Core.List.{List, [], ◌∷◌, ◌++◌, map}
use lib.ListN.{length, get_or, set, replicate, get_or-replicate}
use lib.Ieee.{Float}
use Rattle.answers.specs.Answer.{Said, accepted, turned, lengths, accepts, kept}
use Rattle.counted.specs.Counted.{Count, carried, number_in}
use Rattle.decoder_record.specs.State.{Pll}
use Rattle.decoder.specs.Machine.{block_says}
use Rattle.decoder.specs.F32.{f32}
use Rattle.decoder_fast.specs.Wide.{wide_up_to, block_count, count_f32}
use Rattle.rack_waiting.specs.declared.Waiting.{Waiting}
use Rattle.rack_waiting.specs.Beside.{beside, over}
use Rattle.rack_waiting.specs.Waiting.{round_says}
use Rattle.rack_waiting.proofs.Beside.{beside_more, length_beside, over_set, over_same}
use Rattle.rack_waiting.proofs.Loops.{constant}
use Rattle.rack_round.specs.Round.{Queue, waiting_of}
use Rattle.rack_round.specs.Flat.{queues_of}
use Rattle.rack_round.specs.Wide.{turn_wide, round_wide}
use Rattle.rack_round.proofs.Working.{length_queues, none, of_first, Working, lent, taken_is}

-- ---- one turn
module _ (t : List Float) (share : ℕ) (d : Pll Float) (q : Queue Float) where
  -- from what its block carries, on the first m samples
  pub turn_wide_lem : (m : ℕ) {n : ℕ} {c : Count} → m ≡ min share (length q.mpx) → n ≡ number_in c → c ≡ of_first (λ r. count_f32 r t) d m q → n ≡ turn_wide t share d q
  unfolding turn_wide
  turn_wide_lem m em en ec = en ∙ ap number_in ec ∙ ap (λ (k : ℕ). number_in (of_first (λ r. count_f32 r t) d k q)) em

  -- nothing waits: whatever its block would say, it counts 0
  pub turn_wide_none : length q.mpx ≡ 0 → turn_wide t share d q ≡ 0
  unfolding turn_wide block_count wide_up_to
  turn_wide_none e =
      ap (λ (n : ℕ). number_in (of_first (λ r. count_f32 r t) d n q)) none ∙ go (block_says f32 d (length t) 0 0 0 0)
    where
      none : min share (length q.mpx) ≡ 0
      none = omega (arith, e)

      go : (s : Said) → number_in (carried s 0) ≡ 0
      go accepted = refl
      go (turned n) = refl
      go (lengths n a b) = refl

-- ---- the loop: the first k decoders' counts stand, and 0 past them
pub record Wides (share : ℕ) (t : List Float) (ds : List (Pll Float)) (qs : List (Queue Float)) (k : ℕ) (wide : List ℕ) : Type 0 where
  pub decoders : length ds ≡ 8
  pub queues : length qs ≡ 8
  pub counts : wide ≡ over (beside (turn_wide t share) k ds qs) (replicate 8 0)

module _ {share : ℕ} {t : List Float} {ds : List (Pll Float)} {qs : List (Queue Float)} where
  pub wides_start : length ds ≡ 8 → length qs ≡ 8 → Wides share t ds qs 0 (replicate 8 0)
  unfolding beside
  wides_start ed eq = record { decoders = ed; queues = eq; counts = refl }

  module _ {k : ℕ} {wide : List ℕ} (i : Wides share t ds qs k wide) where
    pub wides_as : {wide' : List ℕ} → wide' ≡ wide → Wides share t ds qs k wide'
    wides_as e = record { decoders = i.decoders; queues = i.queues; counts = e ∙ i.counts }

    pub wides_end : (number : ℕ) → k ≤ number → number ≤ k → wide ≡ over (beside (turn_wide t share) number ds qs) (replicate 8 0)
    wides_end number h g =
        let e : k ≡ number = omega arith in
        i.counts ∙ ap (λ (n : ℕ). over (beside (turn_wide t share) n ds qs) (replicate 8 0)) e

    -- the decoder at k
    module _ (h : k < 8) (d : Pll Float) (q : Queue Float) where
      abbrev own : ℕ
      own = turn_wide t share (get_or ds k d) (get_or qs k q)

      abbrev front : List ℕ
      front = beside (turn_wide t share) k ds qs

      long : length front ≡ k
      long = length_beside (turn_wide t share) k ds qs (omega (arith, i.decoders)) (omega (arith, i.queues))

      after : {wide' : List ℕ} → wide' ≡ over (front ++ (own ∷ [])) (replicate 8 0) → Wides share t ds qs (k + 1) wide'
      after e = record {
        decoders = i.decoders;
        queues = i.queues;
        counts = e
            ∙ ap (λ (l : List ℕ). over l (replicate 8 0))
            (sym (ap (λ (n : ℕ). beside (turn_wide t share) n ds qs) (add-one k) ∙ beside_more (turn_wide t share) k ds qs d q (omega (arith, i.decoders)) (omega (arith, i.queues))));
      }

      -- has its turn
      pub wides_next : {v : ℕ} → v ≡ own → Wides share t ds qs (k + 1) (set wide k v)
      wides_next {v} e =
          after (ap (λ (l : List ℕ). set l k v) i.counts
          ∙ over_set front (replicate 8 0) v k long h
          ∙ ap (λ (n : ℕ). over (front ++ (n ∷ [])) (replicate 8 0)) e)

      -- nothing waits for it
      pub wides_past : length (get_or qs k q).mpx ≡ 0 → Wides share t ds qs (k + 1) wide
      wides_past e =
          after (i.counts
          ∙ sym (over_same front (replicate 8 0) 0 k long h)
          ∙ ap (λ (n : ℕ). over (front ++ (n ∷ [])) (replicate 8 0)) (get_or-replicate 8 k 0 0 h ∙ sym (turn_wide_none t share (get_or ds k d) (get_or qs k q) e)))

-- .. on its part of flat lists, of which its block was lent what it takes
module _ {share number k a : ℕ} {t ys zs : List Float} {ds₀ ds : List (Pll Float)} {parts : List Waiting} {flat : Queue Float} {wide : List ℕ}
    (j : Wides share t ds₀ (queues_of parts flat) k wide) (i : Working f32 share t ds₀ parts flat number k a ys zs ds)
    (w : Waiting) (hn : k < number) (hp : k < length parts) (d : Pll Float) (n : ℕ) (en : n ≡ min share (get_or parts k w).mpx) where
  pub wides_lent : {v : ℕ} {c : Count} → v ≡ number_in c → c ≡ of_first (λ r. count_f32 r t) (get_or ds k d) (a + n - a) (lent i w hn hp)
      → Wides share t ds₀ (queues_of parts flat) (k + 1) (set wide k v)
  wides_lent ev ec =
      let h : k < 8 = omega (arith, length_queues parts flat, j.queues) in
      wides_next j h d none
      (turn_wide_lem t share (get_or ds₀ k d) (get_or (queues_of parts flat) k none) (min share (length (get_or (queues_of parts flat) k none).mpx)) refl ev (ec ∙ sym (taken_is i w hn hp d (omega (arith, j.decoders)) n en (λ r. count_f32 r t) none)))

-- ---- the ways out of a round that was answered s
pub record Replied (number allowance : ℕ) (t : List Float) (ds : List (Pll Float)) (qs : List (Queue Float)) (s : Said) : Type 0 where
  pub queues : length qs ≡ 8
  pub answer : s ≡ round_says number allowance (length t) (map f32.fit ds) (map waiting_of qs)

module _ {number allowance : ℕ} {t : List Float} {ds : List (Pll Float)} {qs : List (Queue Float)} {s : Said} (i : Replied number allowance t ds qs s) where
  abbrev counts : List ℕ
  counts = beside (turn_wide t (allowance / number)) number ds qs

  by_test : (b : Bool) → accepts s ≡ b → over (cond b counts []) (replicate 8 0) ≡ round_wide number allowance t ds qs
  unfolding round_wide
  by_test b h =
      (λ j. over (cond (sym h j) counts []) (constant {B = ℕ} 0 8 qs i.queues j))
      ∙ ap (λ (z : Said). over (kept z counts []) (map (λ q. 0) qs)) i.answer

  pub wides_refused : accepts s ≡ false → replicate 8 0 ≡ round_wide number allowance t ds qs
  wides_refused h = by_test false h

  pub wides_carried_out : {wide : List ℕ} {qs' : List (Queue Float)} → accepts s ≡ true → qs' ≡ qs
      → wide ≡ over (beside (turn_wide t (allowance / number)) number ds qs') (replicate 8 0) → wide ≡ round_wide number allowance t ds qs
  wides_carried_out h eq e = e ∙ ap (λ (l : List (Queue Float)). over (beside (turn_wide t (allowance / number)) number ds l) (replicate 8 0)) eq ∙ by_test true h
