use Prim.Native.Nat.{◌-◌}
use native.Mathlib.Nat.{sub-zero}
use mathlib.Core.Path.{◌∙◌}
use lib.Ieee.{Float}
use Rattle.counted.specs.Counted.{said_in}
use Rattle.decoder_record.specs.Records.{pll_of_f32}
use Rattle.decoder.specs.F32.{f32}
use Rattle.rack_round.specs.Round.{Queue}
use Rattle.rack_round.proofs.Wide.{turn_wide_lem}
use Rattle.rack_slices_round.proofs.Turns.{turn_is}
use Rattle.rack_slices.proofs.turn.Goals as goal

pub returns : goal.returns
returns c =
    let a = c.args in
    let b = c.block-reply in
    let q : Queue Float = record { mpx = a.mpx.now; pilot = a.pilot.now; sum = a.sum.now; difference = a.difference.now } in
    let e = sub-zero c.least-n.result ∙ c.least-n.ensures in
    record {
      leaves = turn_is f32 a.table.now a.share (pll_of_f32 a.d) q (c.least-n.result - 0)
          {s = said_in b.result.answer} {vy = b.new.sum} {vz = b.new.difference} e
          c.requires.1 c.requires.2 b.auto.sum b.auto.difference b.ensures.0;
      wide = turn_wide_lem a.table.now a.share (pll_of_f32 a.d) q (c.least-n.result - 0) e c.wide_of.ensures b.ensures.1;
    }
