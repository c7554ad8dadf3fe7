use Rattle.answers.specs.Answer.{entries}
use Rattle.answers.proofs.Whole.{uncut, counted}
use Rattle.decoder_q15.proofs.parts.full_table.Goals as goal

pub slice_bounds-result-end : goal.slice_bounds-result-end
slice_bounds-result-end c = counted entries c.args.table.now c.requires

pub returns : goal.returns
returns c = uncut entries c.args.table.now c.requires
