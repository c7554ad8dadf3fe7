use Rattle.summary_counts.proofs.is_full.Goals as goal

pub returns : goal.returns
returns c = rw c.held.ensures
