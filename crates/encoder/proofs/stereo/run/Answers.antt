use Rattle.std.proofs.Common.{ap, ◌∙◌}
use Rattle.encoder.specs.Multiplex.{phase_at}
use Rattle.encoder.proofs.Passes.{multiplexed}
use Rattle.encoder.proofs.stereo.run.Goals as goal

pub returns : goal.returns
returns c =
    let x = c.args in
    let r = multiplexed x.e x.table.now x.left.now x.right.now c.full_table-cosines.ensures c.requires.2 c.subcarrier.ensures c.mix.ensures c.add_pilot.ensures.samples in
    record { phase = c.add_pilot.ensures.phase ∙ ap (phase_at x.e) r.0; samples = r.1 }
