use Rattle.std.proofs.Common.{rules}
use Rattle.decoder_parts.specs.Rules.{accumulate_f32}
use Rattle.decoder_parts.proofs.in_f32.accumulated.Goals as goal

pub returns : goal.returns
unfolding accumulate_f32
returns c = c.flush_denormal.ensures
