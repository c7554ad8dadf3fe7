use mathlib.Core.Path.{sym, ap, subst}
use mathlib.Core.Bool.{not}
use lib.Dec.{T}
use lib.Ieee.{binary32, is_nan}
use lib.Ieee.Compare.{differs_from_itself}
use Rattle.rounding.proofs.Own.{not_nan}
use Rattle.summary_record.specs.F32.{unsigned_f32}
use Rattle.summary_record.proofs.Sign.{unsigned_test}
use Rattle.summary_record.proofs.in_f32.is_unsigned.Goals as goal

pub returns-then-m : goal.returns-then-m
returns-then-m c = ap unsigned_f32 (sym (differs_from_itself c.args.m (subst T (sym c.if-m.true) tt)))

pub float_to_bits-result : goal.float_to_bits-result
float_to_bits-result c = (let it : T (not (is_nan c.args.m)) = not_nan c.args.m c.if-m.false in it)

pub returns : goal.returns
returns c = unsigned_test binary32 c.args.m (subst T (sym c.well_formed.0.1) tt) (let it : T (not (is_nan c.args.m)) = not_nan c.args.m c.if-m.false in it)
