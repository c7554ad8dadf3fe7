use mathlib.Core.Path.{ap, ◌∙◌}
use mathlib.Core.List.{List}
use lib.IntN.{ℤ}
use Rattle.decoder_record.specs.State.{Pll}
use Rattle.decoder_q15.specs.Q15.{q15}
use Rattle.rack_round.specs.Flat.{flat_of}
use Rattle.c_rack.specs.Coded.{coded_round}
use Rattle.c_rack_q15.proofs.in_q15.pescrondilu_q15_rack_round.Goals as goal

pub returns : goal.returns
returns c =
    let a = c.args in
    rw (c.code_of.ensures, c.all_given.ensures)
    (ap (coded_round a.rack.number)
    (c.round-reply.ensures
    ∙ ap (λ (ds : List (Pll ℤ)). flat_of q15 a.rack.number a.allowance a.table.now ds a.waiting.decoders
    (record { mpx = a.mpx.now; pilot = a.pilot.now; sum = a.sum.now; difference = a.difference.now }))
    c.all_taken.ensures))
