use Prim.Native.Nat.{ℕ, zero, suc}
use mathlib.Core.Path.{◌≡◌, refl, ap, ◌∙◌}
use mathlib.Core.Bool.{Bool, true, false, not, ◌&&◌, ◌||◌}
use lib.Dec.{eqb, ltb}
use lib.Ieee.{of_bits}
use Rattle.summary_counts.specs.Counts.{held_of}
use Rattle.summary_record.specs.Record.{summary_fit}
use Rattle.summary_record.proofs.Fits.{none_held}
use Rattle.summary_record.proofs.in_f32.is_fit.Goals as goal

pub returns : goal.returns
unfolding summary_fit of_bits
returns c =
    let a = c.args.s in
    rw (c.is_fit.ensures, c.is_unsigned.ensures, c.held-empty.ensures, none_held (held_of a.counts))
