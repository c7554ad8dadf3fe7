use mathlib.Core.Path.{◌≡◌, sym, ap, ◌∙◌}
use mathlib.Core.List.{List, map}
use borrow.Author.Rules.{rules}
use lib.ListN.{length, length-map}
use lib.IntN.{ℤ}
use Rattle.answers.specs.Answer.{Said, says}
use Rattle.answers.proofs.Causes.{refused_by, accepted_by}
use Rattle.decoder_record.specs.State.{Pll}
use Rattle.decoder_record_q15.specs.Records.{pll_of_q15}
use Rattle.decoder_record_q15.specs.Fit.{fit_q15}
use Rattle.decoder_q15.specs.Q15.{q15}
use Rattle.rack_round.specs.Round.{waiting_of}
use Rattle.rack_slices_round.specs.Slices.{addresses_of, Slices, queues_at}
use Rattle.rack_slices_round.proofs.Lending.{slices_in}
use Rattle.rack_slices_round.proofs.Rounds.{Answered, refused, even, carried_out}
use Prim.Native.Nat.{ℕ}
use mathlib.Core.Bool.{Bool}
use Rattle.decoder_record_q15.specs.declared.pll_q15.StereoPllQ15.{StereoPllQ15}
use Rattle.rack_waiting.specs.declared.Waiting.{Waiting}
use Rattle.rack_waiting.specs.Waiting.{round_says}
use Rattle.rack_slices_q15.proofs.round.Goals as goal

-- what the answer says, of plain values
module _ (number allowance : ℕ) (t : List ℤ) (decoders : List StereoPllQ15) (s : Slices ℤ) (said : Said) (fits : List Bool) (waiting : List Waiting)
    (eight : length decoders ≡ 8) (f : fits ≡ map fit_q15 (map pll_of_q15 decoders)) (w : waiting ≡ map waiting_of (queues_at s)) (k : said ≡ round_says number allowance (length t) fits waiting) where
  abbrev ds : List (Pll ℤ)
  ds = map pll_of_q15 decoders

  places : length ds ≡ 8
  places = length-map decoders pll_of_q15 ∙ eight

  answered : Answered q15 number allowance t ds s said fits waiting
  answered = record { places = places; waits = w; fit = f; answer = k }

  fit_places : length fits ≡ 8
  fit_places = ap length f ∙ length-map ds fit_q15 ∙ places

pub returns-then-is_err : goal.returns-then-is_err
returns-then-is_err c =
    let a = c.args in
    let l = c.lengths-waiting in
    let s : Slices ℤ = slices_in a.mpx.now a.pilot.now a.sum.now a.difference.now in
    let eight : length a.decoders ≡ 8 = search rules in (
      refused (answered a.number a.allowance a.table.now a.decoders s (says c.round_answer-answer.result) c.fit_records.result l.result eight c.fit_records.ensures l.ensures.0 c.round_answer-answer.ensures) (refused_by c.round_answer-answer.result c.is_err.ensures.value c.if-is_err.true) (ap (map (λ x. x.now)) l.ensures.1) (ap (map (λ x. x.now)) l.ensures.2),
      ap addresses_of l.ensures.1,
      ap addresses_of l.ensures.2,
    )

pub work-next-requires : goal.work-next-requires
work-next-requires c =
    let a = c.args in
    let l = c.lengths-waiting in
    let s : Slices ℤ = slices_in a.mpx.now a.pilot.now a.sum.now a.difference.now in
    let eight : length a.decoders ≡ 8 = search rules in
    -- the slices once their lengths are read
    let read : Slices ℤ = slices_in a.mpx.now a.pilot.now l.new.sum l.new.difference in
    let same : read ≡ s = λ j. record { mpx = s.mpx; pilot = s.pilot; sum = map (λ x. x.now) (l.ensures.1 j); difference = map (λ x. x.now) (l.ensures.2 j) } in
    let i = answered a.number a.allowance a.table.now a.decoders s (says c.round_answer-answer.result) c.fit_records.result l.result eight c.fit_records.ensures l.ensures.0 c.round_answer-answer.ensures in
    let e = even i (accepted_by c.round_answer-answer.result c.is_err.ensures.value c.if-is_err.false) (fit_places a.number a.allowance a.table.now a.decoders s (says c.round_answer-answer.result) c.fit_records.result l.result eight c.fit_records.ensures l.ensures.0 c.round_answer-answer.ensures) in
    record { number = e.0; even = e.1; waiting = i.waits ∙ ap (λ (z : Slices ℤ). map waiting_of (queues_at z)) (sym same) }

pub returns : goal.returns
returns c =
    let a = c.args in
    let l = c.lengths-waiting in
    let s : Slices ℤ = slices_in a.mpx.now a.pilot.now a.sum.now a.difference.now in
    let eight : length a.decoders ≡ 8 = search rules in
    -- the slices once their lengths are read
    let read : Slices ℤ = slices_in a.mpx.now a.pilot.now l.new.sum l.new.difference in
    let same : read ≡ s = λ j. record { mpx = s.mpx; pilot = s.pilot; sum = map (λ x. x.now) (l.ensures.1 j); difference = map (λ x. x.now) (l.ensures.2 j) } in
    let w = c.work-next.ensures in (
      carried_out (answered a.number a.allowance a.table.now a.decoders s (says c.round_answer-answer.result) c.fit_records.result l.result eight c.fit_records.ensures l.ensures.0 c.round_answer-answer.ensures) {s' = read} (accepted_by c.round_answer-answer.result c.is_err.ensures.value c.if-is_err.false) same c.taken.ensures w.0,
      w.1 ∙ ap addresses_of l.ensures.1,
      w.2 ∙ ap addresses_of l.ensures.2,
    )
