use mathlib.Core.Path.{refl}
use Rattle.answers.specs.Answer.{says}
use Rattle.decoder.specs.F32.{f32}
use Rattle.decoder_record.specs.Records.{pll_of_f32}
use Rattle.decoder.proofs.Blocks.{refused, whole_table, runs, ran}
use Rattle.answers.proofs.Causes.{refused_by, accepted_by}
use Rattle.decoder.proofs.plain.block.Goals as goal

pub returns-then-is_err : goal.returns-then-is_err
returns-then-is_err c = refused f32 _ _ _ _ _ _ refl (says c.block_lengths-answer.result) c.block_lengths-answer.ensures (refused_by c.block_lengths-answer.result c.is_err.ensures.value c.if-is_err.true)

pub full_table-cosines-requires : goal.full_table-cosines-requires
full_table-cosines-requires c =
    let a = c.args in
    whole_table f32 a.table.now a.mpx.now a.pilot.now a.sum.now a.difference.now (pll_of_f32 a.d) refl (says c.block_lengths-answer.result) c.block_lengths-answer.ensures (accepted_by c.block_lengths-answer.result c.is_err.ensures.value c.if-is_err.false)

pub run-decoder-requires : goal.run-decoder-requires
run-decoder-requires c =
    let a = c.args in
    let k = runs f32 a.table.now a.mpx.now a.pilot.now a.sum.now a.difference.now (pll_of_f32 a.d) refl (says c.block_lengths-answer.result) c.block_lengths-answer.ensures (accepted_by c.block_lengths-answer.result c.is_err.ensures.value c.if-is_err.false) in
    (k.0, k.1, k.2)

pub returns : goal.returns
returns c =
    ran f32 _ _ _ _ _ _ refl (says c.block_lengths-answer.result) c.block_lengths-answer.ensures (accepted_by c.block_lengths-answer.result c.is_err.ensures.value c.if-is_err.false) (rw c.full_table-cosines.ensures at c.run-decoder.ensures)
