use Prim.Native.Nat.{ℕ}
use mathlib.Core.Path.{◌≡◌, refl, sym, ◌∙◌}
use mathlib.Core.Bool.{true}
use mathlib.Core.List.{List, map}
use borrow.Author.Rules.{rules}
use lib.ListN.{length, replicate, length-map}
use lib.Ieee.{Float}
use Rattle.answers.specs.Answer.{Said, says}
use Rattle.answers.proofs.Causes.{refused_by, accepted_by}
use Rattle.decoder_record.specs.State.{Pll}
use Rattle.decoder_record.specs.Records.{pll_of_f32}
use Rattle.decoder.specs.F32.{f32}
use Rattle.rack_waiting.proofs.Loops.{constant}
use Rattle.rack_round.specs.Round.{Queue, waiting_of}
use Rattle.rack_round.specs.Flat.{queues_of}
use Rattle.rack_round.proofs.Working.{length_queues}
use Rattle.rack_round.proofs.Rounds.{Answered, same_queues, answer_is, refused, agree, carried_out}
use Rattle.rack_round.proofs.Wide.{Replied, wides_refused, wides_carried_out}
use Rattle.decoder_record.specs.declared.pll_f32.StereoPllF32.{StereoPllF32}
use Rattle.rack_waiting.specs.declared.Waiting.{Waiting}
use Rattle.rack_waiting.specs.Waiting.{parts_of, round_says}
use Rattle.rack.proofs.round.Goals as goal

-- what the answer says, of plain values; an f32 record is always taken
module _ (number allowance : ℕ) (t : List Float) (decoders : List StereoPllF32) (ws : List Waiting) (flat : Queue Float) (s : Said) (cut : List Waiting)
    (eight : length decoders ≡ 8) (waits : length ws ≡ 8) (e : cut ≡ parts_of ws (waiting_of flat)) (k : s ≡ round_says number allowance (length t) (replicate 8 true) cut) where
  abbrev ds : List (Pll Float)
  ds = map pll_of_f32 decoders

  places : length ds ≡ 8
  places = length-map decoders pll_of_f32 ∙ eight

  answered : Answered f32 number allowance t ds ws flat s (replicate 8 true) cut
  answered = record { places = places ∙ sym waits; parts = e; fit = constant true 8 ds places; answer = k }

  eight_queues : length (queues_of ws flat) ≡ 8
  eight_queues = length_queues ws flat ∙ waits

  none_taken : replicate {A = ℕ} 8 0 ≡ map (λ (q : Queue Float). 0) (queues_of ws flat)
  none_taken = constant {B = ℕ} 0 8 (queues_of ws flat) eight_queues

  replied : Replied number allowance t ds (queues_of ws flat) s
  replied = record { queues = eight_queues; answer = answer_is answered }

pub returns-then-is_err : goal.returns-then-is_err
returns-then-is_err c =
    let a = c.args in
    let flat : Queue Float = record { mpx = a.mpx.now; pilot = a.pilot.now; sum = a.sum.now; difference = a.difference.now } in
    let eight : length a.decoders ≡ 8 = search rules in
    let waits : length a.waiting ≡ 8 = search rules in
    let i = answered a.number a.allowance a.table.now a.decoders a.waiting flat (says c.round_answer-answer.result) c.parts-cut.result eight waits c.parts-cut.ensures c.round_answer-answer.ensures in
    let h = refused_by c.round_answer-answer.result c.is_err.ensures.value c.if-is_err.true in
    record {
      leaves = refused i h (none_taken a.number a.allowance a.table.now a.decoders a.waiting flat (says c.round_answer-answer.result) c.parts-cut.result eight waits c.parts-cut.ensures c.round_answer-answer.ensures);
      wide = wides_refused (replied a.number a.allowance a.table.now a.decoders a.waiting flat (says c.round_answer-answer.result) c.parts-cut.result eight waits c.parts-cut.ensures c.round_answer-answer.ensures) h;
    }

pub work-worked-requires : goal.work-worked-requires
work-worked-requires c =
    let a = c.args in
    let flat : Queue Float = record { mpx = a.mpx.now; pilot = a.pilot.now; sum = a.sum.now; difference = a.difference.now } in
    let eight : length a.decoders ≡ 8 = search rules in
    let waits : length a.waiting ≡ 8 = search rules in
    let i = answered a.number a.allowance a.table.now a.decoders a.waiting flat (says c.round_answer-answer.result) c.parts-cut.result eight waits c.parts-cut.ensures c.round_answer-answer.ensures in
    let h = accepted_by c.round_answer-answer.result c.is_err.ensures.value c.if-is_err.false in
    let g = agree i h refl in
    record { number = g.0; agreed = g.1 }

pub returns : goal.returns
returns c =
    let a = c.args in
    let flat : Queue Float = record { mpx = a.mpx.now; pilot = a.pilot.now; sum = a.sum.now; difference = a.difference.now } in
    let eight : length a.decoders ≡ 8 = search rules in
    let waits : length a.waiting ≡ 8 = search rules in
    let i = answered a.number a.allowance a.table.now a.decoders a.waiting flat (says c.round_answer-answer.result) c.parts-cut.result eight waits c.parts-cut.ensures c.round_answer-answer.ensures in
    let h = accepted_by c.round_answer-answer.result c.is_err.ensures.value c.if-is_err.false in
    let w = c.work-worked.ensures in
    record {
      leaves = carried_out i h refl c.taken.ensures w.leaves;
      wide = wides_carried_out (replied a.number a.allowance a.table.now a.decoders a.waiting flat (says c.round_answer-answer.result) c.parts-cut.result eight waits c.parts-cut.ensures c.round_answer-answer.ensures) h (same_queues i) w.wide;
    }
