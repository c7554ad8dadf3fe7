use Rattle.std.proofs.Common.{refl, ap₂, arith, rules}
use lib.Ieee.{Float}
use Rattle.lookup.specs.Lookup.{sine_at}
use Rattle.lookup.proofs.Cosine.{frac_cast, cos_f32_at, sine_index, sine_frac}
use Rattle.lookup.proofs.lookup.interp_f32_pair.Goals as goal

pub returns-then-table-lt4097 : goal.returns-then-table-lt4097
returns-then-table-lt4097 c = rw (c.cos_f32.ensures, c.cos_f32-then-table-lt4097.ensures, c.sine_at.ensures)

pub int_to_float-f : goal.int_to_float-f
int_to_float-f c = frac_cast c.args.p

pub returns : goal.returns
returns c =
    let s = c.before.before.before.before.before.before.before in
    let t = s.args.table.now in
    let p = s.args.p in
    ap₂ (λ (c s : Float). record { c = c; s = s })
    (cos_f32_at t p refl refl (omega arith))
    (cos_f32_at t (sine_at 1 p) (sine_index p (omega arith)) (sine_frac p (omega arith)) (omega arith))
