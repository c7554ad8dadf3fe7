use Rattle.std.proofs.Common.{rules}
use Rattle.decoder_parts.specs.Rules.{level_f32}
use Rattle.decoder_parts.proofs.in_f32.level_next.Goals as goal

pub returns : goal.returns
unfolding level_f32
returns c = c.flush_denormal.ensures
