use Rattle.std.proofs.Common.{◌∙◌, rules}
use lib.Ieee.{of_bits, neg, round, binary32, add, mul}
use Rattle.decoder_parts.specs.Rules.{accumulate_f32}
use Rattle.decoder_parts.proofs.Inside.{inside}
use Rattle.decoder_parts.proofs.in_f32.integrated.Goals as goal

pub returns-then-small-beyond : goal.returns-then-small-beyond
returns-then-small-beyond c = c.within.ensures ∙ rw c.accumulated.ensures

pub returns : goal.returns
unfolding accumulate_f32 of_bits neg round
returns c = let a = c.args in inside a.imax (add binary32 a.integ (mul binary32 a.ki a.e)) c.if-small-beyond.false
