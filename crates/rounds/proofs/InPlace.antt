-- In flat lists the outputs of a round lie where its queues lay, over the format. Assumes nothing.
use Prim.Native.Nat.{ℕ, ◌+◌, ◌-◌, ◌≤◌, min}
use native.Mathlib.Omega.{arith}
use mathlib.Core.Path.{◌≡◌, refl, sym, ap, ◌∙◌}
use mathlib.Core.Bool.{Bool, true, false}
use mathlib.Core.List.{List, [], ◌∷◌, ◌++◌, map}
use lib.ListN.{length, take, drop, length-map, length-append, length-take, length-drop}
use lib.Seq.{take_at, drop_at}
use Rattle.answers.specs.Answer.{accepts, first_cause}
use Rattle.decoder_record.specs.State.{Pll}
use Rattle.decoder.specs.Machine.{Arithmetic}
use Rattle.rack_waiting.specs.declared.Waiting.{Waiting}
use Rattle.rack_waiting.specs.Beside.{beside, over}
use Rattle.rack_waiting.specs.Waiting.{cause_of, parts_of}
use Rattle.rack_waiting.proofs.Beside.{take_cut, drop_cut, over_length}
use Rattle.rack_waiting.proofs.Agreement.{accepted_round, agreed_parts}
use Rattle.rack_round.specs.Round.{Queue, waiting_of, Turned, turn_of}
use Rattle.rack_round.specs.Flat.{queues_of, joined, flat_of}
use Rattle.rack_round.proofs.Turns.{cut_by, AsLong, over_append, past_front, queues_sums, queues_differences, turns_long}
use Rattle.rack_round.proofs.Rounds.{queues_waiting, queues_cut}
use Rattle.rounds.specs.Rounds.{Asked, share_of, Eight, asked_of}
use Rattle.rounds.proofs.Places.{by_turns, round_said}

-- as many lists, each as long as the one beside it
abbrev JustAsLong : {A : Type 0} → List (List A) → List (List A) → Type 0
JustAsLong [] [] = Unit {0}
JustAsLong [] (v ∷ vs) = ⊥
JustAsLong (u ∷ us) [] = ⊥
JustAsLong (u ∷ us) (v ∷ vs) = (length u ≡ length v) × JustAsLong us vs

module _ {A : Type 0} where
  just_same : (vs : List (List A)) → JustAsLong vs vs
  just_same [] = tt
  just_same (v ∷ vs) = (refl, just_same vs)

  just_over : (us vs : List (List A)) → AsLong us vs → JustAsLong (over us vs) vs
  just_over [] vs h = just_same vs
  just_over (u ∷ us) [] h = absurd h
  just_over (u ∷ us) (v ∷ vs) h = (h.0, just_over us vs h.1)

  joined_fits : (us : List (List A)) (ns : List ℕ) (l : List A) → JustAsLong us (cut_by ns l) → length (joined us) ≤ length l
  joined_fits [] [] l h = omega arith
  joined_fits [] (n ∷ ns) l h = absurd h
  joined_fits (u ∷ us) [] l h = absurd h
  joined_fits (u ∷ us) (n ∷ ns) l h = omega (arith, length-append u (joined us), h.0, length-take n l, length-drop n l, joined_fits us ns (drop n l) h.1)

  -- lists in place of the parts are the parts again
  cut_joined : (us : List (List A)) (ns : List ℕ) (l : List A) → JustAsLong us (cut_by ns l) → cut_by ns (over (joined us) l) ≡ us
  cut_joined [] [] l h = refl
  cut_joined [] (n ∷ ns) l h = absurd h
  cut_joined (u ∷ us) [] l h = absurd h
  cut_joined (u ∷ us) (n ∷ ns) l h =
      (λ i. (ap (take n) whole ∙ cut_take) i ∷ cut_by ns ((ap (drop n) whole ∙ cut_drop) i))
      ∙ ap (λ (r : List (List A)). u ∷ r) (cut_joined us ns (drop n l) h.1)
    where
      y : List A
      y = over (joined us) (drop n l)

      whole : over (u ++ joined us) l ≡ u ++ y
      whole = over_append u (joined us) l ∙ ap (λ (r : List A). u ++ over (joined us) r) (ap (λ (m : ℕ). drop m l) h.0 ∙ past_front n l)

      rest_long : length y ≡ length (drop n l)
      rest_long = over_length (joined us) (drop n l) (joined_fits us ns (drop n l) h.1)

      cut : min n (length (u ++ y)) ≡ length u
      cut = omega (arith, length-append u y, rest_long, h.0, length-take n l, length-drop n l)

      cut_take : take n (u ++ y) ≡ u
      cut_take = take_cut n (u ++ y) ∙ ap (λ (m : ℕ). take m (u ++ y)) cut ∙ take_at u y (length u) refl

      cut_drop : drop n (u ++ y) ≡ y
      cut_drop = drop_cut n (u ++ y) ∙ ap (λ (m : ℕ). drop m (u ++ y)) cut ∙ drop_at u y (length u) refl

module _ {A : Type 0} (F : Arithmetic A) (number allowance : ℕ) (t : List A) (ds : List (Pll A)) (ws : List Waiting) (flat : Queue A) (e8 : Eight ds) where
  abbrev c : Asked A
  c = record { number = number; allowance = allowance; table = t; queues = queues_of ws flat }

  abbrev us : List (Turned A)
  us = beside (turn_of F t (share_of c)) number ds (queues_of ws flat)

  long : accepts (asked_of F ds c).said ≡ true
      → AsLong (map (λ u. u.sum) us) (map (λ q. q.sum) (queues_of ws flat)) × AsLong (map (λ u. u.difference) us) (map (λ q. q.difference) (queues_of ws flat))
  long h =
      let x = accepted_round number allowance (length t) (map F.fit ds) (map waiting_of (queues_of ws flat)) (ap accepts (sym (round_said F ds c)) ∙ h) in
      let own = ap (λ (l : List Waiting). accepts (first_cause (beside (cause_of (length t)) number (map F.fit ds) l))) (sym (queues_waiting ws flat)) ∙ x.own in
      rw (← queues_cut ws flat)
      (turns_long F t (share_of c) number ds (parts_of ws (waiting_of flat)) flat
      (agreed_parts (length t) number (map F.fit ds) ws (waiting_of flat) (omega (arith, x.eight, e8, length-map ds F.fit)) own))

  -- the outputs of a round are as long as its queues'
  sums_just : JustAsLong (asked_of F ds c).sums (map (λ q. q.sum) (queues_of ws flat))
  sums_just = by (accepts (asked_of F ds c).said) refl
    where
      by : (b : Bool) → accepts (asked_of F ds c).said ≡ b → JustAsLong (asked_of F ds c).sums (map (λ q. q.sum) (queues_of ws flat))
      by true e = rw (by_turns F ds c true e) (just_over (map (λ u. u.sum) us) (map (λ q. q.sum) (queues_of ws flat)) (long e).0)
      by false e = rw (by_turns F ds c false e) (just_same (map (λ q. q.sum) (queues_of ws flat)))

  differences_just : JustAsLong (asked_of F ds c).differences (map (λ q. q.difference) (queues_of ws flat))
  differences_just = by (accepts (asked_of F ds c).said) refl
    where
      by : (b : Bool) → accepts (asked_of F ds c).said ≡ b → JustAsLong (asked_of F ds c).differences (map (λ q. q.difference) (queues_of ws flat))
      by true e = rw (by_turns F ds c true e) (just_over (map (λ u. u.difference) us) (map (λ q. q.difference) (queues_of ws flat)) (long e).1)
      by false e = rw (by_turns F ds c false e) (just_same (map (λ q. q.difference) (queues_of ws flat)))

  abbrev later : Queue A
  later = let f = flat_of F number allowance t ds ws flat in record { mpx = flat.mpx; pilot = flat.pilot; sum = f.sum; difference = f.difference }

  pub in_place : (map (λ q. q.sum) (queues_of ws later) ≡ (asked_of F ds c).sums) × (map (λ q. q.difference) (queues_of ws later) ≡ (asked_of F ds c).differences)
  unfolding flat_of
  in_place = (
    queues_sums ws later ∙ cut_joined (asked_of F ds c).sums (map (λ w. w.sum) ws) flat.sum (rw (queues_sums ws flat) at sums_just),
    queues_differences ws later
        ∙ cut_joined (asked_of F ds c).differences (map (λ w. w.difference) ws) flat.difference (rw (queues_differences ws flat) at differences_just),
  )
