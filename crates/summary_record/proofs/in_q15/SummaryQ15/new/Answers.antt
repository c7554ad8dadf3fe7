use Rattle.summary_record.proofs.in_q15.SummaryQ15.new.Goals as goal

pub returns : goal.returns
returns c = rw c.fresh.ensures
