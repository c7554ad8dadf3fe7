use Prim.Native.Nat.{ℕ}
use mathlib.Core.Path.{◌≡◌, sym, ap, ◌∙◌}
use mathlib.Core.List.{List, map}
use borrow.Author.Rules.{rules}
use lib.ListN.{length, replicate, length-map}
use lib.IntN.{ℤ}
use Rattle.answers.specs.Answer.{Said, says}
use Rattle.answers.proofs.Causes.{refused_by, accepted_by}
use Rattle.decoder_record.specs.State.{Pll}
use Rattle.decoder_record_q15.specs.Records.{pll_of_q15}
use Rattle.decoder_record_q15.specs.Fit.{fit_q15}
use Rattle.decoder_q15.specs.Q15.{q15}
use Rattle.rack_waiting.proofs.Loops.{constant}
use Rattle.rack_round.specs.Round.{Queue, waiting_of}
use Rattle.rack_round.specs.Flat.{queues_of}
use Rattle.rack_round.proofs.Working.{length_queues}
use Rattle.rack_round.proofs.Rounds.{Answered, refused, agree, carried_out}
use mathlib.Core.Bool.{Bool}
use Rattle.decoder_record_q15.specs.declared.pll_q15.StereoPllQ15.{StereoPllQ15}
use Rattle.rack_waiting.specs.declared.Waiting.{Waiting}
use Rattle.rack_waiting.specs.Waiting.{parts_of, round_says}
use Rattle.rack_q15.proofs.round.Goals as goal

-- what the answer says, of plain values
module _ (number allowance : ℕ) (t : List ℤ) (decoders : List StereoPllQ15) (ws : List Waiting) (flat : Queue ℤ) (s : Said) (fits : List Bool) (cut : List Waiting)
    (eight : length decoders ≡ 8) (waits : length ws ≡ 8) (f : fits ≡ map fit_q15 (map pll_of_q15 decoders)) (e : cut ≡ parts_of ws (waiting_of flat)) (k : s ≡ round_says number allowance (length t) fits cut) where
  abbrev ds : List (Pll ℤ)
  ds = map pll_of_q15 decoders

  places : length ds ≡ 8
  places = length-map decoders pll_of_q15 ∙ eight

  answered : Answered q15 number allowance t ds ws flat s fits cut
  answered = record { places = places ∙ sym waits; parts = e; fit = f; answer = k }

  fit_places : length fits ≡ 8
  fit_places = ap length f ∙ length-map ds fit_q15 ∙ places

  none_taken : replicate {A = ℕ} 8 0 ≡ map (λ (q : Queue ℤ). 0) (queues_of ws flat)
  none_taken = constant {B = ℕ} 0 8 (queues_of ws flat) (length_queues ws flat ∙ waits)

pub returns-then-is_err : goal.returns-then-is_err
returns-then-is_err c =
    let a = c.args in
    let flat : Queue ℤ = record { mpx = a.mpx.now; pilot = a.pilot.now; sum = a.sum.now; difference = a.difference.now } in
    let eight : length a.decoders ≡ 8 = search rules in
    let waits : length a.waiting ≡ 8 = search rules in
    let i = answered a.number a.allowance a.table.now a.decoders a.waiting flat (says c.round_answer-answer.result) c.fit_records.result c.parts-cut.result eight waits c.fit_records.ensures c.parts-cut.ensures c.round_answer-answer.ensures in
    refused i (refused_by c.round_answer-answer.result c.is_err.ensures.value c.if-is_err.true) (none_taken a.number a.allowance a.table.now a.decoders a.waiting flat (says c.round_answer-answer.result) c.fit_records.result c.parts-cut.result eight waits c.fit_records.ensures c.parts-cut.ensures c.round_answer-answer.ensures)

pub work-next-requires : goal.work-next-requires
work-next-requires c =
    let a = c.args in
    let flat : Queue ℤ = record { mpx = a.mpx.now; pilot = a.pilot.now; sum = a.sum.now; difference = a.difference.now } in
    let eight : length a.decoders ≡ 8 = search rules in
    let waits : length a.waiting ≡ 8 = search rules in
    let i = answered a.number a.allowance a.table.now a.decoders a.waiting flat (says c.round_answer-answer.result) c.fit_records.result c.parts-cut.result eight waits c.fit_records.ensures c.parts-cut.ensures c.round_answer-answer.ensures in
    let g = agree i (accepted_by c.round_answer-answer.result c.is_err.ensures.value c.if-is_err.false) (fit_places a.number a.allowance a.table.now a.decoders a.waiting flat (says c.round_answer-answer.result) c.fit_records.result c.parts-cut.result eight waits c.fit_records.ensures c.parts-cut.ensures c.round_answer-answer.ensures) in
    record { number = g.0; agreed = g.1 }

pub returns : goal.returns
returns c =
    let a = c.args in
    let flat : Queue ℤ = record { mpx = a.mpx.now; pilot = a.pilot.now; sum = a.sum.now; difference = a.difference.now } in
    let eight : length a.decoders ≡ 8 = search rules in
    let waits : length a.waiting ≡ 8 = search rules in
    let i = answered a.number a.allowance a.table.now a.decoders a.waiting flat (says c.round_answer-answer.result) c.fit_records.result c.parts-cut.result eight waits c.fit_records.ensures c.parts-cut.ensures c.round_answer-answer.ensures in
    carried_out i (accepted_by c.round_answer-answer.result c.is_err.ensures.value c.if-is_err.false) (fit_places a.number a.allowance a.table.now a.decoders a.waiting flat (says c.round_answer-answer.result) c.fit_records.result c.parts-cut.result eight waits c.fit_records.ensures c.parts-cut.ensures c.round_answer-answer.ensures) c.taken.ensures c.work-next.ensures
