use mathlib.Core.Path.{ap, ◌∙◌}
use mathlib.Core.List.{List}
use lib.Ieee.{Float}
use Rattle.decoder_record.specs.State.{Pll}
use Rattle.decoder.specs.F32.{f32}
use Rattle.rack_round.specs.Round.{Queue}
use Rattle.rack_round.specs.Flat.{queues_of, flat_of}
use Rattle.rack_round.specs.Wide.{round_wide}
use Rattle.c_rack.specs.Coded.{coded_round}
use Rattle.c_rack.proofs.in_f32.pescrondilu_f32_rack_round.Goals as goal

pub returns : goal.returns
returns c =
    let a = c.args in
    let flat : Queue Float = record { mpx = a.mpx.now; pilot = a.pilot.now; sum = a.sum.now; difference = a.difference.now } in
    let e = c.all_taken.ensures in
    record {
      leaves = rw (c.code_of.ensures, c.all_given.ensures)
          (ap (coded_round a.rack.number)
          (c.round-reply.ensures.leaves
          ∙ ap (λ (ds : List (Pll Float)). flat_of f32 a.rack.number a.allowance a.table.now ds a.waiting.decoders flat) e));
      wide = c.round-reply.ensures.wide
          ∙ ap (λ (ds : List (Pll Float)). round_wide a.rack.number a.allowance a.table.now ds (queues_of a.waiting.decoders flat)) e;
    }
