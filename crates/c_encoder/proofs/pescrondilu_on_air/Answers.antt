use mathlib.Core.Path.{ap, ◌∙◌}
use Rattle.answers.specs.Coded.{switch_of}
use Rattle.c_encoder.proofs.pescrondilu_on_air.Goals as goal

pub returns : goal.returns
returns c = c.switch_of.ensures ∙ ap switch_of c.on_air.ensures
