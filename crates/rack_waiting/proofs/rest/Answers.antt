use Rattle.rack_waiting.proofs.rest.Goals as goal

pub returns : goal.returns
returns c = cc
