use Rattle.answers.proofs.Whole.{uncut, counted}
use Rattle.encoder_rds.proofs.rds.full_table.Goals as goal

pub slice_bounds-result-end : goal.slice_bounds-result-end
slice_bounds-result-end c = counted 4097 c.args.table.now c.requires

pub returns : goal.returns
returns c = uncut 4097 c.args.table.now c.requires
