use mathlib.Core.Path.{ap, ◌∙◌}
use mathlib.Core.List.{List}
use lib.IntN.{ℤ}
use Rattle.decoder_record.specs.State.{Pll}
use Rattle.decoder_q15.specs.Q15.{q15}
use Rattle.rack_slices_round.specs.Slices.{slices_of}
use Rattle.rack_slices_round.proofs.Lending.{slices_in}
use Rattle.c_rack_slices.specs.Coded.{coded_slices}
use Rattle.c_rack_slices_q15.proofs.in_q15.pescrondilu_q15_rack_round_slices.Goals as goal

pub returns : goal.returns
returns c =
    let a = c.args in (
      rw (c.code_of.ensures, c.all_given.ensures)
          (ap (coded_slices a.rack.number)
          (c.round-reply.ensures.0
          ∙ ap (λ (ds : List (Pll ℤ)). slices_of q15 a.rack.number a.allowance a.table.now ds
          (slices_in a.mpx.now a.pilot.now a.sum.now a.difference.now))
          c.all_taken.ensures)),
      c.round-reply.ensures.1,
      c.round-reply.ensures.2,
    )
