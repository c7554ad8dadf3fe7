use mathlib.Core.Path.{sym, ap, subst}
use mathlib.Core.Bool.{not}
use lib.Dec.{T}
use lib.Ieee.{binary32, is_nan}
use lib.Ieee.Compare.{differs_from_itself}
use lib.Ieee.Scale.{finite}
use Rattle.rounding.proofs.Own.{not_nan, finite_test}
use Rattle.pilot_scan.proofs.is_finite_pattern.Goals.{Else-x}
use Rattle.pilot_scan.proofs.is_finite_pattern.Goals as goal

real : (c : Else-x) → T (not (is_nan c.args.x))
real c = not_nan c.args.x c.if-x.false

pub returns-then-x : goal.returns-then-x
returns-then-x c = ap finite (sym (differs_from_itself c.args.x (subst T (sym c.if-x.true) tt)))

pub float_to_bits-result : goal.float_to_bits-result
float_to_bits-result c = real c

pub returns : goal.returns
returns c = finite_test binary32 c.args.x (subst T (sym c.well_formed.0.1) tt) (real c)
