use Rattle.std.proofs.Common.{sym, ◌∙◌, rules}
use lib.Ieee.{of_bits}
use Rattle.decoder_parts.proofs.in_f32.error_of.Goals as goal

pub returns-then-is_finite_f32 : goal.returns-then-is_finite_f32
returns-then-is_finite_f32 c = rw (sym c.is_finite_f32.ensures ∙ c.if-is_finite_f32.true)

pub returns-else-is_finite_f32 : goal.returns-else-is_finite_f32
unfolding of_bits
returns-else-is_finite_f32 c = rw (sym c.is_finite_f32.ensures ∙ c.if-is_finite_f32.false)
