-- The ways out of a round whose decoders have slices of their own, over the format. Assumes nothing.
use Prim.Native.Nat.{ℕ, ◌/◌, ◌≤◌, ◌<◌}
use native.Mathlib.Omega.{arith}
use mathlib.Core.Path.{◌≡◌, refl, sym, ap, ◌∙◌}
use mathlib.Core.Bool.{Bool, true, false, cond}
use mathlib.Core.List.{List, [], map, map-map}
use lib.ListN.{length, replicate}
use Rattle.answers.specs.Answer.{Said, accepts, kept}
use Rattle.answers.proofs.Passes.{length_samples}
use Rattle.decoder_record.specs.State.{Pll}
use Rattle.decoder.specs.Machine.{Arithmetic}
use Rattle.rack_waiting.specs.declared.Waiting.{Waiting}
use Rattle.rack_waiting.specs.Beside.{beside, over}
use Rattle.rack_waiting.specs.Waiting.{round_says, taken_of}
use Rattle.rack_waiting.specs.Agreed.{Even}
use Rattle.rack_waiting.proofs.Loops.{constant}
use Rattle.rack_waiting.proofs.Agreement.{accepted_round, even_parts}
use Rattle.rack_round.specs.Round.{waiting_of, Turned, turn_of, round_of}
use Rattle.rack_round.proofs.Turns.{turns_taken}
use Rattle.rack_slices_round.specs.Slices.{Slices, queue_at, queues_at, within, Sliced, slices_of, Worked, worked_of}
use Rattle.rack_slices_round.proofs.Within.{within_none, within_queues}

-- a round that was answered a, by the lengths of its slices
pub record Answered {A : Type 0} (F : Arithmetic A) (number allowance : ℕ) (t : List A) (ds : List (Pll A)) (s : Slices A)
    (a : Said) (fits : List Bool) (ws : List Waiting) : Type 0 where
  pub places : length ds ≡ 8
  pub waits : ws ≡ map waiting_of (queues_at s)
  pub fit : fits ≡ map F.fit ds
  pub answer : a ≡ round_says number allowance (length t) fits ws

module _ {A : Type 0} {F : Arithmetic A} {number allowance : ℕ} {t : List A} {ds : List (Pll A)} {s : Slices A}
    {a : Said} {fits : List Bool} {ws : List Waiting} (i : Answered F number allowance t ds s a fits ws) where
  abbrev share : ℕ
  share = allowance / number

  -- the turns of an accepted round, and what a round leaves by its turns
  abbrev turns : List (Turned A)
  turns = beside (turn_of F t share) number ds (queues_at s)

  abbrev after : Said → List (Turned A) → Sliced A
  after z us = record {
    said = z;
    taken = over (map (λ u. u.taken) us) (map (λ q. 0) (queues_at s));
    sum = within (over (map (λ u. u.sum) us) (map (λ q. q.sum) (queues_at s))) s.sum;
    difference = within (over (map (λ u. u.difference) us) (map (λ q. q.difference) (queues_at s))) s.difference;
    decoders = over (map (λ u. u.pll) us) ds;
  }

  -- the answer by the queues
  pub answer_is : a ≡ round_says number allowance (length t) (map F.fit ds) (map waiting_of (queues_at s))
  answer_is = i.answer ∙ (λ j. round_says number allowance (length t) (i.fit j) (i.waits j))

  by_answer : after a (kept a turns []) ≡ slices_of F number allowance t ds s
  unfolding slices_of round_of
  by_answer = ap (λ (z : Said). after z (kept z turns [])) answer_is

  -- by the outcome of the test
  by_test : (b : Bool) → accepts a ≡ b → after a (cond b turns []) ≡ slices_of F number allowance t ds s
  by_test b h = ap (λ (z : Bool). after a (cond z turns [])) (sym h) ∙ by_answer

  own_sums : (us : List (List A)) → within us s.sum ≡ within (over us (map (λ q. q.sum) (queues_at s))) s.sum
  own_sums us = within_queues (λ q. q.sum) 8 (queue_at s) us s.sum [] (λ k. refl)

  own_differences : (us : List (List A)) → within us s.difference ≡ within (over us (map (λ q. q.difference) (queues_at s))) s.difference
  own_differences us = within_queues (λ q. q.difference) 8 (queue_at s) us s.difference [] (λ k. refl)

  pub refused : {sum difference : List (List A)} → accepts a ≡ false → sum ≡ s.sum → difference ≡ s.difference
      → record { said = a; taken = replicate 8 0; sum = sum; difference = difference; decoders = ds } ≡ slices_of F number allowance t ds s
  refused h ey ez =
      (λ j. record {
        said = a;
        taken = constant {B = ℕ} 0 8 (queues_at s) (length_samples 8 (queue_at s)) j;
        sum = (ey ∙ sym (within_none s.sum) ∙ own_sums []) j;
        difference = (ez ∙ sym (within_none s.difference) ∙ own_differences []) j;
        decoders = ds;
      })
      ∙ by_test false h

  pub even : accepts a ≡ true → length fits ≡ 8 → (number ≤ 8) × Even number ws
  even h l =
      let x = accepted_round number allowance (length t) fits ws (ap accepts (sym i.answer) ∙ h) in (
        x.eight,
        even_parts (length t) number fits ws (omega (arith, x.eight)) x.own,
      )

  pub some : accepts a ≡ true → 0 < number
  some h = omega (arith, (accepted_round number allowance (length t) fits ws (ap accepts (sym i.answer) ∙ h)).two)

  pub carried_out : {taken : List ℕ} {sum difference : List (List A)} {next : List (Pll A)} {s' : Slices A} → accepts a ≡ true → s' ≡ s → taken ≡ taken_of number share ws
      → record { sum = sum; difference = difference; decoders = next } ≡ worked_of F number t share ds s'
      → record { said = a; taken = taken; sum = sum; difference = difference; decoders = next } ≡ slices_of F number allowance t ds s
  unfolding worked_of
  carried_out {sum = sum} {difference = difference} {next = next} h es et ew =
      (λ j. record {
        said = a;
        taken = (et ∙ same_taken) j;
        sum = (ap (λ (w : Worked A). w.sum) left ∙ own_sums (map (λ u. u.sum) turns)) j;
        difference = (ap (λ (w : Worked A). w.difference) left ∙ own_differences (map (λ u. u.difference) turns)) j;
        decoders = ap (λ (w : Worked A). w.decoders) left j;
      })
      ∙ by_test true h
    where
      left : record { sum = sum; difference = difference; decoders = next } ≡ worked_of F number t share ds s
      left = ew ∙ ap (worked_of F number t share ds) es

      same_taken : taken_of number share ws ≡ over (map (λ u. u.taken) turns) (map (λ q. 0) (queues_at s))
      same_taken =
          ap (taken_of number share) i.waits
          ∙ (λ j. over
          (sym (turns_taken F t share number ds (queues_at s) (omega (arith, i.places, length_samples 8 (queue_at s)))) j)
          (map-map (λ (w : Waiting). 0) waiting_of (queues_at s) j))
