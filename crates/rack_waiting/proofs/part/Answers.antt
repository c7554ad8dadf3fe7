use Rattle.rack_waiting.proofs.part.Goals as goal

pub returns : goal.returns
returns c = cc
