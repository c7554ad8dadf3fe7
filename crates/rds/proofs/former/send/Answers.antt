use mathlib.Core.Path.{ap, ◌∙◌}
use native.Mathlib.Omega.{arith}
use Rattle.rds_blocks.specs.Blocks.{bits_of}
use Rattle.rds.specs.Coding.{sent_of}
use Rattle.rds_blocks.proofs.Checks.{block_bits_lem}
use Rattle.rds.proofs.Codes.{unlike_is, sending_next, sending_end}
use Rattle.rds.proofs.former.send.Goals as goal

pub loop-n-preserved : goal.loop-n-preserved
loop-n-preserved c =
    sending_next c.loop-n.invariant (omega arith) (omega (arith, c.loop-n.invariant.some)) (unlike_is c.loop-n.last c.has_place-bit.ensures) c.byte.ensures

pub returns : goal.returns
returns c =
    let a = c.args in
    sending_end c.loop-n.invariant (omega arith)
    ∙ ap (sent_of a.previous) (ap (bits_of 26) c.block-x.ensures ∙ block_bits_lem a.word a.offset c.ranges.word.fits)
