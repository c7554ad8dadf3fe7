-- The ways out of a round, over the format, from its answer and what its decoders left. Assumes nothing.
use Prim.Native.Nat.{ℕ, ◌/◌, ◌≤◌, ◌<◌}
use mathlib.Core.Path.{◌≡◌, refl, sym, ap, ◌∙◌}
use mathlib.Core.Bool.{Bool, true, false, cond}
use mathlib.Core.List.{List, [], ◌∷◌, map, map-map}
use native.Mathlib.Omega.{arith}
use lib.ListN.{length, length-take}
use Rattle.answers.specs.Answer.{Said, accepts, kept, first_cause}
use Rattle.decoder_record.specs.State.{Pll}
use Rattle.decoder.specs.Machine.{Arithmetic}
use Rattle.rack_waiting.specs.declared.Waiting.{Waiting}
use Rattle.rack_waiting.specs.Beside.{beside, over}
use Rattle.rack_waiting.specs.Waiting.{cause_of, part_of, rest_of, parts_of, round_says, taken_of}
use Rattle.rack_waiting.specs.Agreed.{Agreed}
use Rattle.rack_waiting.proofs.Beside.{take_cut, drop_cut}
use Rattle.rack_waiting.proofs.Agreement.{accepted_round, agreed_parts}
use Rattle.rack_round.specs.Round.{Queue, waiting_of, Turned, turn_of, round_of}
use Rattle.rack_round.specs.Flat.{front_of, past_of, queues_of, joined, Flat, flat_of, Worked, worked_of}
use Rattle.rack_round.proofs.Working.{length_queues}
use Rattle.rack_round.proofs.Turns.{left_waiting, AsLong, sums_over, differences_over, turns_long, turns_taken}

module _ {A : Type 0} where
  front_waiting : (w : Waiting) (flat : Queue A) → waiting_of (front_of w flat) ≡ part_of w (waiting_of flat)
  front_waiting w flat = λ j. record {
    mpx = length-take w.mpx flat.mpx j;
    pilot = length-take w.pilot flat.pilot j;
    sum = length-take w.sum flat.sum j;
    difference = length-take w.difference flat.difference j;
  }

  -- how long the queues are
  pub queues_waiting : (ws : List Waiting) (flat : Queue A) → map waiting_of (queues_of ws flat) ≡ parts_of ws (waiting_of flat)
  unfolding queues_of parts_of
  queues_waiting [] flat = refl
  queues_waiting (w ∷ ws) flat =
      λ j. front_waiting w flat j ∷ (queues_waiting ws (past_of w flat) ∙ ap (parts_of ws) (left_waiting w flat)) j

  cut_front : (w : Waiting) (flat : Queue A) → front_of (part_of w (waiting_of flat)) flat ≡ front_of w flat
  cut_front w flat = λ j. record {
    mpx = sym (take_cut w.mpx flat.mpx) j;
    pilot = sym (take_cut w.pilot flat.pilot) j;
    sum = sym (take_cut w.sum flat.sum) j;
    difference = sym (take_cut w.difference flat.difference) j;
  }

  cut_past : (w : Waiting) (flat : Queue A) → past_of (part_of w (waiting_of flat)) flat ≡ past_of w flat
  cut_past w flat = λ j. record {
    mpx = sym (drop_cut w.mpx flat.mpx) j;
    pilot = sym (drop_cut w.pilot flat.pilot) j;
    sum = sym (drop_cut w.sum flat.sum) j;
    difference = sym (drop_cut w.difference flat.difference) j;
  }

  -- the queues by the lengths that were cut off
  pub queues_cut : (ws : List Waiting) (flat : Queue A) → queues_of (parts_of ws (waiting_of flat)) flat ≡ queues_of ws flat
  unfolding queues_of parts_of
  queues_cut [] flat = refl
  queues_cut (w ∷ ws) flat =
      λ j. cut_front w flat j
      ∷ (ap (queues_of (parts_of ws (rest_of w (waiting_of flat)))) (cut_past w flat)
      ∙ ap (λ (v : Waiting). queues_of (parts_of ws v) (past_of w flat)) (sym (left_waiting w flat))
      ∙ queues_cut ws (past_of w flat)) j

-- a round that was answered s, by the lengths of its parts
pub record Answered {A : Type 0} (F : Arithmetic A) (number allowance : ℕ) (t : List A) (ds : List (Pll A)) (ws : List Waiting) (flat : Queue A)
    (s : Said) (fits : List Bool) (cut : List Waiting) : Type 0 where
  pub places : length ds ≡ length ws
  pub parts : cut ≡ parts_of ws (waiting_of flat)
  pub fit : fits ≡ map F.fit ds
  pub answer : s ≡ round_says number allowance (length t) fits cut

module _ {A : Type 0} {F : Arithmetic A} {number allowance : ℕ} {t : List A} {ds : List (Pll A)} {ws : List Waiting} {flat : Queue A}
    {s : Said} {fits : List Bool} {cut : List Waiting} (i : Answered F number allowance t ds ws flat s fits cut) where
  abbrev share : ℕ
  share = allowance / number

  abbrev qs : List (Queue A)
  qs = queues_of ws flat

  -- the turns of an accepted round, and what a round leaves by its turns
  abbrev turns : List (Turned A)
  turns = beside (turn_of F t share) number ds qs

  abbrev after : Said → List (Turned A) → Flat A
  after z us = record {
    said = z;
    taken = over (map (λ u. u.taken) us) (map (λ q. 0) qs);
    sum = over (joined (over (map (λ u. u.sum) us) (map (λ q. q.sum) qs))) flat.sum;
    difference = over (joined (over (map (λ u. u.difference) us) (map (λ q. q.difference) qs))) flat.difference;
    decoders = over (map (λ u. u.pll) us) ds;
  }

  same_cut : cut ≡ map waiting_of qs
  same_cut = i.parts ∙ sym (queues_waiting ws flat)

  -- the queues of the parts, and the answer by the queues
  pub same_queues : queues_of cut flat ≡ qs
  same_queues = ap (λ (c : List Waiting). queues_of c flat) i.parts ∙ queues_cut ws flat

  pub answer_is : s ≡ round_says number allowance (length t) (map F.fit ds) (map waiting_of qs)
  answer_is = i.answer ∙ (λ j. round_says number allowance (length t) (i.fit j) (same_cut j))

  by_answer : after s (kept s turns []) ≡ flat_of F number allowance t ds ws flat
  unfolding flat_of round_of
  by_answer = ap (λ (z : Said). after z (kept z turns [])) answer_is

  -- by the outcome of the test
  by_test : (b : Bool) → accepts s ≡ b → after s (cond b turns []) ≡ flat_of F number allowance t ds ws flat
  by_test b h = ap (λ (z : Bool). after s (cond z turns [])) (sym h) ∙ by_answer

  pub refused : {taken : List ℕ} → accepts s ≡ false → taken ≡ map (λ q. 0) qs
      → record { said = s; taken = taken; sum = flat.sum; difference = flat.difference; decoders = ds } ≡ flat_of F number allowance t ds ws flat
  refused h et =
      (λ j. record {
        said = s;
        taken = et j;
        sum = sums_over [] ws flat tt j;
        difference = differences_over [] ws flat tt j;
        decoders = ds;
      })
      ∙ by_test false h

  pub agree : accepts s ≡ true → length fits ≡ 8 → (number ≤ 8) × Agreed number cut (waiting_of flat)
  agree h l =
      let x = accepted_round number allowance (length t) fits cut (ap accepts (sym i.answer) ∙ h) in (
        x.eight,
        rw i.parts (agreed_parts (length t) number fits ws (waiting_of flat) (omega (arith, x.eight))
            (ap (λ (c : List Waiting). accepts (first_cause (beside (cause_of (length t)) number fits c))) (sym i.parts) ∙ x.own)),
      )

  pub some : accepts s ≡ true → 0 < number
  some h = omega (arith, (accepted_round number allowance (length t) fits cut (ap accepts (sym i.answer) ∙ h)).two)

  pub carried_out : {taken : List ℕ} {sum difference : List A} {next : List (Pll A)} → accepts s ≡ true → length fits ≡ 8 → taken ≡ taken_of number share cut
      → record { sum = sum; difference = difference; decoders = next } ≡ worked_of F number t share ds cut flat
      → record { said = s; taken = taken; sum = sum; difference = difference; decoders = next } ≡ flat_of F number allowance t ds ws flat
  unfolding worked_of
  carried_out {taken} {sum} {difference} {next} h l et ew =
      (λ j. record {
        said = s;
        taken = (et ∙ same_taken) j;
        sum = (worked (λ w. w.sum) ∙ sums_over (map (λ u. u.sum) turns) ws flat long.0) j;
        difference = (worked (λ w. w.difference) ∙ differences_over (map (λ u. u.difference) turns) ws flat long.1) j;
        decoders = worked (λ w. w.decoders) j;
      })
      ∙ by_test true h
    where
      same_turns : beside (turn_of F t share) number ds (queues_of cut flat) ≡ turns
      same_turns = ap (beside (turn_of F t share) number ds) same_queues

      -- what the loop left, by the turns over the queues
      left : List (Turned A) → Worked A
      left us = record {
        sum = over (joined (map (λ u. u.sum) us)) flat.sum;
        difference = over (joined (map (λ u. u.difference) us)) flat.difference;
        decoders = over (map (λ u. u.pll) us) ds;
      }

      worked : {X : Type 0} (f : Worked A → X) → f (record { sum = sum; difference = difference; decoders = next }) ≡ f (left turns)
      worked f = ap f ew ∙ ap (λ (us : List (Turned A)). f (left us)) same_turns

      long : AsLong (map (λ u. u.sum) turns) (map (λ q. q.sum) qs) × AsLong (map (λ u. u.difference) turns) (map (λ q. q.difference) qs)
      long = rw (← same_queues) (turns_long F t share number ds cut flat (agree h l).1)

      same_taken : taken_of number share cut ≡ over (map (λ u. u.taken) turns) (map (λ q. 0) qs)
      same_taken =
          ap (taken_of number share) same_cut
          ∙ (λ j. over (sym (turns_taken F t share number ds qs (omega (arith, i.places, length_queues ws flat))) j) (map-map (λ (w : Waiting). 0) waiting_of qs j))
