use mathlib.Core.Path.{ap, ◌∙◌}
use mathlib.Core.List.{List}
use lib.Ieee.{Float}
use Rattle.decoder_record.specs.State.{Pll}
use Rattle.decoder.specs.F32.{f32}
use Rattle.rack_round.specs.Wide.{round_wide}
use Rattle.rack_slices_round.specs.Slices.{queues_at, slices_of}
use Rattle.rack_slices_round.proofs.Lending.{slices_in}
use Rattle.c_rack_slices.specs.Coded.{coded_slices}
use Rattle.c_rack_slices.proofs.in_f32.pescrondilu_f32_rack_round_slices.Goals as goal

pub returns : goal.returns
returns c =
    let a = c.args in
    let s = slices_in a.mpx.now a.pilot.now a.sum.now a.difference.now in
    let r = c.round-reply.ensures in
    let e = c.all_taken.ensures in
    record {
      leaves = (
        rw (c.code_of.ensures, c.all_given.ensures)
            (ap (coded_slices a.rack.number)
            (r.leaves.0 ∙ ap (λ (ds : List (Pll Float)). slices_of f32 a.rack.number a.allowance a.table.now ds s) e)),
        r.leaves.1,
        r.leaves.2,
      );
      wide = r.wide ∙ ap (λ (ds : List (Pll Float)). round_wide a.rack.number a.allowance a.table.now ds (queues_at s)) e;
    }
