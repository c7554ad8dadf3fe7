use mathlib.Core.Path.{◌≡◌, ap, ◌∙◌}
use mathlib.Core.Bool.{Bool}
use mathlib.Core.List.{◌∷◌}
use lib.IntN.{ℤ}
use lib.ListN.{length}
use Rattle.answers.proofs.Causes.{refused_by, accepted_by}
use Rattle.answers.specs.Answer.{says, rule, first_cause}
use Rattle.decoder_record_q15.specs.Records.{pll_of_q15}
use Rattle.decoder.specs.Machine.{length_causes, block_says}
use Rattle.decoder_q15.specs.Q15.{q15}
use Rattle.summary_record.specs.Q15.{unsigned_q15, summary_of_q15}
use Rattle.summary_call.specs.Summary.{Columns}
use Rattle.summary_call.proofs.Ways.{turned_back, fit_summary, asked, carried_out}
use Rattle.summary_q15.proofs.block.Goals as goal

pub returns-then-is_err : goal.returns-then-is_err
returns-then-is_err c =
    let a = c.args in
    let held : Columns ℤ = record { stereo = a.stereos.now; mono = a.monos.now; changes = a.changes.now; magnitude = a.magnitudes.now } in
    -- what the block itself would answer
    let own : says c.block_answer-own.result ≡ block_says q15 (pll_of_q15 a.d) (length a.table.now) (length a.mpx.now) (length a.pilot.now) (length a.sum.now) (length a.difference.now) =
    c.block_answer-own.ensures
    ∙ ap (λ (b : Bool). first_cause (rule 0 b ∷ length_causes (length a.table.now) (length a.mpx.now) (length a.pilot.now) (length a.sum.now) (length a.difference.now))) c.is_fit.ensures in
    turned_back q15 unsigned_q15 (pll_of_q15 a.d) (summary_of_q15 a.s) a.table.now a.mpx.now a.pilot.now a.sum.now a.difference.now held c.is_fit-2.ensures own c.summary_answer-answer.ensures (refused_by c.summary_answer-answer.result c.is_err.ensures.value c.if-is_err.true)

pub full_table-cosines-requires : goal.full_table-cosines-requires
full_table-cosines-requires c =
    let a = c.args in
    let held : Columns ℤ = record { stereo = a.stereos.now; mono = a.monos.now; changes = a.changes.now; magnitude = a.magnitudes.now } in
    -- what the block itself would answer
    let own : says c.block_answer-own.result ≡ block_says q15 (pll_of_q15 a.d) (length a.table.now) (length a.mpx.now) (length a.pilot.now) (length a.sum.now) (length a.difference.now) =
    c.block_answer-own.ensures
    ∙ ap (λ (b : Bool). first_cause (rule 0 b ∷ length_causes (length a.table.now) (length a.mpx.now) (length a.pilot.now) (length a.sum.now) (length a.difference.now))) c.is_fit.ensures in
    (asked q15 unsigned_q15 (pll_of_q15 a.d) (summary_of_q15 a.s) a.table.now a.mpx.now a.pilot.now a.sum.now a.difference.now held c.is_fit-2.ensures own c.summary_answer-answer.ensures (accepted_by c.summary_answer-answer.result c.is_err.ensures.value c.if-is_err.false)).table

pub run-requires : goal.run-requires
run-requires c =
    let a = c.args in
    let held : Columns ℤ = record { stereo = a.stereos.now; mono = a.monos.now; changes = a.changes.now; magnitude = a.magnitudes.now } in
    -- what the block itself would answer
    let own : says c.block_answer-own.result ≡ block_says q15 (pll_of_q15 a.d) (length a.table.now) (length a.mpx.now) (length a.pilot.now) (length a.sum.now) (length a.difference.now) =
    c.block_answer-own.ensures
    ∙ ap (λ (b : Bool). first_cause (rule 0 b ∷ length_causes (length a.table.now) (length a.mpx.now) (length a.pilot.now) (length a.sum.now) (length a.difference.now))) c.is_fit.ensures in
    let h = accepted_by c.summary_answer-answer.result c.is_err.ensures.value c.if-is_err.false in
    let g = asked q15 unsigned_q15 (pll_of_q15 a.d) (summary_of_q15 a.s) a.table.now a.mpx.now a.pilot.now a.sum.now a.difference.now held c.is_fit-2.ensures own c.summary_answer-answer.ensures h in
    record { lengths = g.even; columns = g.filled; summary = fit_summary q15 unsigned_q15 (pll_of_q15 a.d) (summary_of_q15 a.s) a.table.now a.mpx.now a.pilot.now a.sum.now a.difference.now held c.is_fit-2.ensures own c.summary_answer-answer.ensures h; fit = g.fit_record }

pub returns : goal.returns
returns c =
    let a = c.args in
    let held : Columns ℤ = record { stereo = a.stereos.now; mono = a.monos.now; changes = a.changes.now; magnitude = a.magnitudes.now } in
    -- what the block itself would answer
    let own : says c.block_answer-own.result ≡ block_says q15 (pll_of_q15 a.d) (length a.table.now) (length a.mpx.now) (length a.pilot.now) (length a.sum.now) (length a.difference.now) =
    c.block_answer-own.ensures
    ∙ ap (λ (b : Bool). first_cause (rule 0 b ∷ length_causes (length a.table.now) (length a.mpx.now) (length a.pilot.now) (length a.sum.now) (length a.difference.now))) c.is_fit.ensures in
    carried_out q15 unsigned_q15 (pll_of_q15 a.d) (summary_of_q15 a.s) a.table.now a.mpx.now a.pilot.now a.sum.now a.difference.now held c.is_fit-2.ensures own c.summary_answer-answer.ensures (accepted_by c.summary_answer-answer.result c.is_err.ensures.value c.if-is_err.false) (rw c.full_table-cosines.ensures at c.run.ensures)
