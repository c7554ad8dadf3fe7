use Rattle.answers.specs.Answer.{says}
use Rattle.decoder_q15.specs.Q15.{q15}
use Rattle.decoder_record_q15.specs.Records.{pll_of_q15}
use Rattle.decoder.proofs.Blocks.{refused, whole_table, runs, ran}
use Rattle.answers.proofs.Causes.{refused_by, accepted_by}
use Rattle.decoder_q15.proofs.fast.block.Goals as goal

pub returns-then-is_err : goal.returns-then-is_err
returns-then-is_err c = refused q15 _ _ _ _ _ _ c.is_fit.ensures (says c.block_answer-answer.result) c.block_answer-answer.ensures (refused_by c.block_answer-answer.result c.is_err.ensures.value c.if-is_err.true)

pub full_table-cosines-requires : goal.full_table-cosines-requires
full_table-cosines-requires c =
    let a = c.args in
    whole_table q15 a.table.now a.mpx.now a.pilot.now a.sum.now a.difference.now (pll_of_q15 a.d) c.is_fit.ensures (says c.block_answer-answer.result) c.block_answer-answer.ensures (accepted_by c.block_answer-answer.result c.is_err.ensures.value c.if-is_err.false)

pub run-decoder-requires : goal.run-decoder-requires
run-decoder-requires c =
    let a = c.args in
    let k = runs q15 a.table.now a.mpx.now a.pilot.now a.sum.now a.difference.now (pll_of_q15 a.d) c.is_fit.ensures (says c.block_answer-answer.result) c.block_answer-answer.ensures (accepted_by c.block_answer-answer.result c.is_err.ensures.value c.if-is_err.false) in
    k

pub returns : goal.returns
returns c =
    ran q15 _ _ _ _ _ _ c.is_fit.ensures (says c.block_answer-answer.result) c.block_answer-answer.ensures (accepted_by c.block_answer-answer.result c.is_err.ensures.value c.if-is_err.false) (rw c.full_table-cosines.ensures at c.run-decoder.ensures)
