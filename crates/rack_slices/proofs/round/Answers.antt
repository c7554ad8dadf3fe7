use mathlib.Core.Path.{◌≡◌, refl, sym, ap, ◌∙◌}
use mathlib.Core.Bool.{true}
use mathlib.Core.List.{List, map}
use borrow.Author.Rules.{rules}
use lib.ListN.{length, replicate, length-map}
use lib.Ieee.{Float}
use Rattle.answers.specs.Answer.{Said, says}
use Rattle.answers.proofs.Passes.{length_samples}
use Rattle.answers.proofs.Causes.{refused_by, accepted_by}
use Rattle.decoder_record.specs.State.{Pll}
use Rattle.decoder_record.specs.Records.{pll_of_f32}
use Rattle.decoder.specs.F32.{f32}
use Rattle.rack_waiting.proofs.Loops.{constant}
use Rattle.rack_round.specs.Round.{waiting_of}
use Rattle.rack_round.proofs.Wide.{Replied, wides_refused, wides_carried_out}
use Rattle.rack_slices_round.specs.Slices.{addresses_of, Slices, queues_at}
use Rattle.rack_slices_round.proofs.Lending.{slices_in}
use Rattle.rack_slices_round.proofs.Rounds.{Answered, answer_is, refused, even, carried_out}
use Prim.Native.Nat.{ℕ}
use Rattle.decoder_record.specs.declared.pll_f32.StereoPllF32.{StereoPllF32}
use Rattle.rack_waiting.specs.declared.Waiting.{Waiting}
use Rattle.rack_waiting.specs.Waiting.{round_says}
use Rattle.rack_slices.proofs.round.Goals as goal

-- what the answer says, of plain values; an f32 record is always taken
module _ (number allowance : ℕ) (t : List Float) (decoders : List StereoPllF32) (s : Slices Float) (said : Said) (waiting : List Waiting)
    (eight : length decoders ≡ 8) (w : waiting ≡ map waiting_of (queues_at s)) (k : said ≡ round_says number allowance (length t) (replicate 8 true) waiting) where
  abbrev ds : List (Pll Float)
  ds = map pll_of_f32 decoders

  places : length ds ≡ 8
  places = length-map decoders pll_of_f32 ∙ eight

  answered : Answered f32 number allowance t ds s said (replicate 8 true) waiting
  answered = record { places = places; waits = w; fit = constant true 8 ds places; answer = k }

  replied : Replied number allowance t ds (queues_at s) said
  replied = record { queues = length_samples 8 _; answer = answer_is answered }

pub returns-then-is_err : goal.returns-then-is_err
returns-then-is_err c =
    let a = c.args in
    let l = c.lengths-waiting in
    let s : Slices Float = slices_in a.mpx.now a.pilot.now a.sum.now a.difference.now in
    let eight : length a.decoders ≡ 8 = search rules in
    let h = refused_by c.round_answer-answer.result c.is_err.ensures.value c.if-is_err.true in
    record {
      leaves = (refused (answered a.number a.allowance a.table.now a.decoders s (says c.round_answer-answer.result) l.result eight l.ensures.0 c.round_answer-answer.ensures) h (ap (map (λ x. x.now)) l.ensures.1) (ap (map (λ x. x.now)) l.ensures.2), ap addresses_of l.ensures.1, ap addresses_of l.ensures.2);
      wide = wides_refused (replied a.number a.allowance a.table.now a.decoders s (says c.round_answer-answer.result) l.result eight l.ensures.0 c.round_answer-answer.ensures) h;
    }

pub work-worked-requires : goal.work-worked-requires
work-worked-requires c =
    let a = c.args in
    let l = c.lengths-waiting in
    let s : Slices Float = slices_in a.mpx.now a.pilot.now a.sum.now a.difference.now in
    let eight : length a.decoders ≡ 8 = search rules in
    -- the slices once their lengths are read
    let read : Slices Float = slices_in a.mpx.now a.pilot.now l.new.sum l.new.difference in
    let same : read ≡ s = λ j. record { mpx = s.mpx; pilot = s.pilot; sum = map (λ x. x.now) (l.ensures.1 j); difference = map (λ x. x.now) (l.ensures.2 j) } in
    let i = answered a.number a.allowance a.table.now a.decoders s (says c.round_answer-answer.result) l.result eight l.ensures.0 c.round_answer-answer.ensures in
    let e = even i (accepted_by c.round_answer-answer.result c.is_err.ensures.value c.if-is_err.false) refl in
    record { number = e.0; even = e.1; waiting = i.waits ∙ ap (λ (z : Slices Float). map waiting_of (queues_at z)) (sym same) }

pub returns : goal.returns
returns c =
    let a = c.args in
    let l = c.lengths-waiting in
    let s : Slices Float = slices_in a.mpx.now a.pilot.now a.sum.now a.difference.now in
    let eight : length a.decoders ≡ 8 = search rules in
    -- the slices once their lengths are read
    let read : Slices Float = slices_in a.mpx.now a.pilot.now l.new.sum l.new.difference in
    let same : read ≡ s = λ j. record { mpx = s.mpx; pilot = s.pilot; sum = map (λ x. x.now) (l.ensures.1 j); difference = map (λ x. x.now) (l.ensures.2 j) } in
    let h = accepted_by c.round_answer-answer.result c.is_err.ensures.value c.if-is_err.false in
    let w = c.work-worked.ensures in
    record {
      leaves = (carried_out (answered a.number a.allowance a.table.now a.decoders s (says c.round_answer-answer.result) l.result eight l.ensures.0 c.round_answer-answer.ensures) {s' = read} h same c.taken.ensures w.leaves.0, w.leaves.1 ∙ ap addresses_of l.ensures.1, w.leaves.2 ∙ ap addresses_of l.ensures.2);
      wide = wides_carried_out (replied a.number a.allowance a.table.now a.decoders s (says c.round_answer-answer.result) l.result eight l.ensures.0 c.round_answer-answer.ensures) h (ap (λ (z : Slices Float). queues_at z) same) w.wide;
    }
