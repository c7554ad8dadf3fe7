use Rattle.std.proofs.Common.{refl, rules}
use lib.Ieee.{of_bits}
use Rattle.lookup.proofs.Cosine.{frac_cast, cos_f32_at, cos_f32_lacks}
use Rattle.lookup.proofs.lookup.cos_f32.Goals as goal

pub returns-then-i-table : goal.returns-then-i-table
unfolding of_bits
returns-then-i-table c = let a = c.args in cos_f32_lacks a.table.now a.p refl c.if-i-table.true

pub int_to_float-f : goal.int_to_float-f
int_to_float-f c = frac_cast c.args.p

pub returns : goal.returns
returns c = let e = c.before.before.before in cos_f32_at e.args.table.now e.args.p refl refl e.if-i-table.false
