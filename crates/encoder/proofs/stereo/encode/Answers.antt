use Rattle.std.proofs.Common.{length, ap, ◌∙◌}
use Rattle.answers.proofs.Causes.{refused_by, accepted_by}
use Rattle.encoder_record.specs.Encode.{encode_at}
use Rattle.encoder.proofs.Encoders.{turned_back, carried_out}
use Rattle.encoder.proofs.Encoders as encoders
use Rattle.encoder.proofs.stereo.encode.Goals as goal

pub returns-then-is_err : goal.returns-then-is_err
returns-then-is_err c =
    let answer = c.encode_lengths-answer in
    turned_back answer.ensures _ _ (refused_by answer.result c.is_err.ensures.value c.if-is_err.true)

pub run-p-requires : goal.run-p-requires
run-p-requires c =
    let answer = c.encode_lengths-answer in
    encoders.encode_lengths (length c.args.table.now) _ _ _ (rw answer.ensures at (accepted_by answer.result c.is_err.ensures.value c.if-is_err.false))

pub returns : goal.returns
returns c =
    let answer = c.encode_lengths-answer in
    carried_out answer.ensures _ _ (accepted_by answer.result c.is_err.ensures.value c.if-is_err.false)
    c.run-p.ensures.samples
    (c.set_phase.ensures ∙ ap (encode_at c.args.e) c.run-p.ensures.phase)
