use borrow.Author.Rules.{rules}
use Rattle.counted.proofs.Answers.{refused_by, accepted_by}
use Rattle.matrix.specs.Matrix.{filled_by}
use Rattle.merged.proofs.Merges.{even, refused, carried_out}
use Rattle.merged.proofs.generic.merged.Goals as goal

pub returns-then-is_err-clause-leaves : goal.returns-then-is_err-clause-leaves
returns-then-is_err-clause-leaves g c =
    let S = g.D.Sample.Sample in
    refused g.D.Decoder.arithmetic _ _ _ _ _ _ (filled_by S.left_of S.right_of S.past) c.block-reply.ensures.leaves
    (refused_by c.block-reply.result.answer c.is_err.ensures.value c.if-is_err.true)

pub matrix_in_place-requires : goal.matrix_in_place-requires
matrix_in_place-requires g c =
    let S = g.D.Sample.Sample in
    even g.D.Decoder.arithmetic _ _ _ _ _ _ (filled_by S.left_of S.right_of S.past) c.block-reply.ensures.leaves
    (accepted_by c.block-reply.result.answer c.is_err.ensures.value c.if-is_err.false)

pub returns-clause-leaves : goal.returns-clause-leaves
returns-clause-leaves g c =
    let S = g.D.Sample.Sample in
    carried_out g.D.Decoder.arithmetic _ _ _ _ _ _ (filled_by S.left_of S.right_of S.past) c.block-reply.ensures.leaves
    (accepted_by c.block-reply.result.answer c.is_err.ensures.value c.if-is_err.false) c.matrix_in_place.ensures
