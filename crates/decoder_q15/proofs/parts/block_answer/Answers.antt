use Rattle.decoder_q15.proofs.parts.block_answer.Goals as goal

pub returns-then-not-fit : goal.returns-then-not-fit
returns-then-not-fit c = rw c.if-not-fit.true

pub returns : goal.returns
returns c = rw c.if-not-fit.false c.block_lengths.ensures
