-- The loop over a rack's decoders that have slices of their own, over the format: the first k have had their turn.
-- Assumes nothing.
use Prim.Native.Nat.{ℕ, ◌+◌, ◌≤◌, ◌<◌}
use native.Mathlib.Numerals.{add-one}
use native.Mathlib.Omega.{arith}
use mathlib.Core.Path.{◌≡◌, refl, sym, ap, ◌∙◌}
use mathlib.Core.List.{List, [], ◌∷◌, ◌++◌, map, map-append}
use lib.ListN.{length, get_or, set, length-map}
use Rattle.answers.proofs.Passes.{length_samples, sample_at}
use Rattle.decoder_record.specs.State.{Pll}
use Rattle.decoder.specs.Machine.{Arithmetic}
use Rattle.rack_waiting.specs.declared.Waiting.{Waiting}
use Rattle.rack_waiting.specs.Beside.{beside, over}
use Rattle.rack_waiting.specs.Agreed.{Even}
use Rattle.rack_waiting.proofs.Beside.{beside_more, length_beside, over_set, over_same}
use Rattle.rack_waiting.proofs.Agreement.{even_at}
use Rattle.rack_round.specs.Round.{Queue, waiting_of, Turned, turn_of}
use Rattle.rack_round.proofs.Parts.{over_get}
use Rattle.rack_slices_round.specs.Slices.{Slices, queue_at, queues_at, within, worked_of}
use Rattle.rack_slices_round.proofs.Turns.{turn_none}
use Rattle.rack_slices_round.proofs.Within.{map_samples, within_none, within_length, within_get, within_set, within_same}

-- what waits for the decoder at k, by the lengths of all
module _ {A : Type 0} (s : Slices A) (number k : ℕ) (ws : List Waiting) (w : Waiting) (hn : k < number) (h8 : k < 8) (e : ws ≡ map waiting_of (queues_at s)) where
  pub waits_at : get_or ws k w ≡ waiting_of (queue_at s k)
  waits_at = ap (λ (l : List Waiting). get_or l k w) (e ∙ map_samples waiting_of 8 (queue_at s)) ∙ sample_at 8 (λ i. waiting_of (queue_at s i)) w k h8

  pub even_queue : Even number ws → let m = length (get_or s.mpx k []) in
      (length (get_or s.pilot k []) ≡ m) × (length (get_or s.sum k []) ≡ m) × (length (get_or s.difference k []) ≡ m)
  even_queue h = rw waits_at at (even_at number k ws w hn (omega (arith, all)) h)
    where
      all : length ws ≡ 8
      all = ap length e ∙ length-map (queues_at s) waiting_of ∙ length_samples 8 (queue_at s)

module _ {A : Type 0} (F : Arithmetic A) (share : ℕ) (t : List A) (ds₀ : List (Pll A)) (s : Slices A) where
  abbrev turns : ℕ → List (Turned A)
  turns k = beside (turn_of F t share) k ds₀ (queues_at s)

  abbrev sums : ℕ → List (List A)
  sums k = map (λ u. u.sum) (turns k)

  abbrev differences : ℕ → List (List A)
  differences k = map (λ u. u.difference) (turns k)

  abbrev plls : ℕ → List (Pll A)
  plls k = map (λ u. u.pll) (turns k)

  pub record Working (number k : ℕ) (ys zs : List (List A)) (ds : List (Pll A)) : Type 0 where
    pub upto : k ≤ number
    pub sum : ys ≡ within (sums k) s.sum
    pub difference : zs ≡ within (differences k) s.difference
    pub decoders : ds ≡ over (plls k) ds₀

module _ {A : Type 0} {F : Arithmetic A} {number share : ℕ} {t : List A} {ds₀ : List (Pll A)} {s : Slices A} where
  pub working_start : Working F share t ds₀ s number 0 s.sum s.difference ds₀
  unfolding beside
  working_start = record { upto = omega arith; sum = sym (within_none s.sum); difference = sym (within_none s.difference); decoders = refl }

  module _ {k : ℕ} {ys zs : List (List A)} {ds : List (Pll A)} (i : Working F share t ds₀ s number k ys zs ds) where
    pub sum_kept : length ys ≡ length s.sum
    sum_kept = ap length i.sum ∙ within_length (sums F share t ds₀ s k) s.sum

    pub difference_kept : length zs ≡ length s.difference
    difference_kept = ap length i.difference ∙ within_length (differences F share t ds₀ s k) s.difference

    pub working_end : number ≤ k → record { sum = ys; difference = zs; decoders = ds } ≡ worked_of F number t share ds₀ s
    unfolding worked_of
    working_end h =
        let e : k ≡ number = omega (arith, i.upto) in
        λ j. record {
          sum = (i.sum ∙ ap (λ (n : ℕ). within (sums F share t ds₀ s n) s.sum) e) j;
          difference = (i.difference ∙ ap (λ (n : ℕ). within (differences F share t ds₀ s n) s.difference) e) j;
          decoders = (i.decoders ∙ ap (λ (n : ℕ). over (plls F share t ds₀ s n) ds₀) e) j;
        }

    pub working_as : {ys' zs' : List (List A)} {ds' : List (Pll A)} → ys' ≡ ys → zs' ≡ zs → ds' ≡ ds → Working F share t ds₀ s number k ys' zs' ds'
    working_as ey ez ed = record { upto = i.upto; sum = ey ∙ i.sum; difference = ez ∙ i.difference; decoders = ed ∙ i.decoders }

    -- the decoder at k
    module _ (hn : k < number) (h8 : k < 8) (hd : k < length ds₀) where
      long : {B : Type 0} (f : Turned A → B) → length (map f (turns F share t ds₀ s k)) ≡ k
      long f =
          length-map (turns F share t ds₀ s k) f
          ∙ length_beside (turn_of F t share) k ds₀ (queues_at s) (omega arith) (omega (arith, length_samples 8 (queue_at s)))

      -- its outputs stand as they were
      pub same_sum : get_or ys k [] ≡ get_or s.sum k []
      same_sum =
          ap (λ (l : List (List A)). get_or l k []) i.sum
          ∙ within_get (sums F share t ds₀ s k) s.sum k [] (long (λ u. u.sum))

      pub same_difference : get_or zs k [] ≡ get_or s.difference k []
      same_difference =
          ap (λ (l : List (List A)). get_or l k []) i.difference
          ∙ within_get (differences F share t ds₀ s k) s.difference k [] (long (λ u. u.difference))

      same_decoder : (d : Pll A) → get_or ds k d ≡ get_or ds₀ k d
      same_decoder d = ap (λ (l : List (Pll A)). get_or l k d) i.decoders ∙ over_get (plls F share t ds₀ s k) ds₀ k d (long (λ u. u.pll))

      -- what its turn leaves
      module _ (d : Pll A) (o : Turned A) (e : turn_of F t share (get_or ds₀ k d) (queue_at s k) ≡ o) where
        turns_next : turns F share t ds₀ s (k + 1) ≡ turns F share t ds₀ s k ++ (o ∷ [])
        turns_next =
            ap (turns F share t ds₀ s) (add-one k)
            ∙ beside_more (turn_of F t share) k ds₀ (queues_at s) d (queue_at s k) hd (omega (arith, length_samples 8 (queue_at s)))
            ∙ ap (λ (u : Turned A). turns F share t ds₀ s k ++ (u ∷ [])) (ap (turn_of F t share (get_or ds₀ k d)) (sample_at 8 (queue_at s) (queue_at s k) k h8) ∙ e)

        next : {B : Type 0} (f : Turned A → B) → map f (turns F share t ds₀ s k) ++ (f o ∷ []) ≡ map f (turns F share t ds₀ s (k + 1))
        next f = sym (ap (map f) turns_next ∙ map-append f (turns F share t ds₀ s k) (o ∷ []))

        after : {ys' zs' : List (List A)} {ds' : List (Pll A)}
            → ys' ≡ within (sums F share t ds₀ s k ++ (o.sum ∷ [])) s.sum
            → zs' ≡ within (differences F share t ds₀ s k ++ (o.difference ∷ [])) s.difference
            → ds' ≡ over (plls F share t ds₀ s k ++ (o.pll ∷ [])) ds₀
            → Working F share t ds₀ s number (k + 1) ys' zs' ds'
        after ey ez ed = record {
          upto = omega arith;
          sum = ey ∙ ap (λ (l : List (List A)). within l s.sum) (next (λ u. u.sum));
          difference = ez ∙ ap (λ (l : List (List A)). within l s.difference) (next (λ u. u.difference));
          decoders = ed ∙ ap (λ (l : List (Pll A)). over l ds₀) (next (λ u. u.pll));
        }

      -- what is made of its record and its slices as they stand is what is made of those that it came with
      pub turned_is : {B : Type 0} (f : Pll A → Queue A → B) (d : Pll A) {p : Pll A} {q : Queue A}
          → get_or ds k d ≡ p
          → q ≡ record { mpx = get_or s.mpx k []; pilot = get_or s.pilot k []; sum = get_or ys k []; difference = get_or zs k [] }
          → f p q ≡ f (get_or ds₀ k d) (queue_at s k)
      turned_is f d ep eq = λ j. f ((sym ep ∙ same_decoder d) j) ((eq ∙ here) j)
        where
          here : record { mpx = get_or s.mpx k []; pilot = get_or s.pilot k []; sum = get_or ys k []; difference = get_or zs k [] } ≡ queue_at s k
          here = λ j. record { mpx = get_or s.mpx k []; pilot = get_or s.pilot k []; sum = same_sum j; difference = same_difference j }

      -- it has its turn
      pub working_next : (d : Pll A) {o : Turned A} → o ≡ turn_of F t share (get_or ds₀ k d) (queue_at s k)
          → Working F share t ds₀ s number (k + 1) (set ys k o.sum) (set zs k o.difference) (set ds k o.pll)
      working_next d {o} e =
          after d o (sym e)
          (ap (λ (l : List (List A)). set l k o.sum) i.sum
          ∙ within_set (sums F share t ds₀ s k) s.sum o.sum k (long (λ u. u.sum)))
          (ap (λ (l : List (List A)). set l k o.difference) i.difference
          ∙ within_set (differences F share t ds₀ s k) s.difference o.difference k (long (λ u. u.difference)))
          (ap (λ (l : List (Pll A)). set l k o.pll) i.decoders
          ∙ over_set (plls F share t ds₀ s k) ds₀ o.pll k (long (λ u. u.pll)) hd)

      -- nothing waits for it
      pub working_past : (d : Pll A) → length (get_or s.mpx k []) ≡ 0 → Working F share t ds₀ s number (k + 1) ys zs ds
      working_past d h =
          after d (record { taken = 0; sum = get_or s.sum k []; difference = get_or s.difference k []; pll = get_or ds₀ k d })
          (turn_none F t share (get_or ds₀ k d) (queue_at s k) h)
          (i.sum ∙ sym (within_same (sums F share t ds₀ s k) s.sum [] k (long (λ u. u.sum))))
          (i.difference ∙ sym (within_same (differences F share t ds₀ s k) s.difference [] k (long (λ u. u.difference))))
          (i.decoders ∙ sym (over_same (plls F share t ds₀ s k) ds₀ d k (long (λ u. u.pll)) hd))
