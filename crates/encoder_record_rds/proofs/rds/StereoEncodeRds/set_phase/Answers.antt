use Rattle.encoder_record_rds.proofs.rds.StereoEncodeRds.set_phase.Goals as goal

pub returns : goal.returns
returns c = rw c.set_phase-enc.ensures
