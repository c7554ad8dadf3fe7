use mathlib.Core.Path.{◌∙◌}
use Rattle.decoder_q15.specs.Q15.{q15}
use Rattle.decoder_record_q15.specs.Records.{pll_of_q15}
use Rattle.formats.proofs.Wideless.{none_counted}
use Rattle.formats.proofs.StereoPllQ15Decoder.block.Goals as goal

pub returns-clause-count : goal.returns-clause-count
returns-clause-count c =
    let a = c.args in
    c.uncounted.ensures.count
    ∙ none_counted q15 a.table.now a.mpx.now a.pilot.now (pll_of_q15 a.self) a.sum.now a.difference.now c.block-reply.ensures
