use mathlib.Core.Path.{ap, ◌∙◌}
use mathlib.Core.Bool.{Bool}
use Rattle.rds.specs.Former.{group_of}
use Rattle.c_rds.specs.Coded.{coded_group}
use Rattle.c_rds.proofs.pescrondilu_rds_group.Goals as goal

pub returns : goal.returns
returns c =
    let a = c.args in
    rw (c.code_of.ensures, c.switch_of.ensures)
    (ap coded_group (c.group-reply.ensures ∙ ap (λ (b : Bool). group_of b a.words a.output.now) c.is_on.ensures))
