use Rattle.std.proofs.Common.{◌≡◌, ◌∙◌, arith, rules}
use Rattle.summary_counts.specs.Counts.{counted_of, wrapped}
use Rattle.summary_counts.proofs.Fits.{counts_out, unwrapped}
use Rattle.summary_counts.proofs.counted.Goals as goal

pub returns-clause-exact : goal.returns-clause-exact
returns-clause-exact c h =
    let a = c.args in
    let e : record { period = a.c.period; stereo = c.wrapping_add_u32.result; mono = c.wrapping_add_u32-2.result; changes = c.wrapping_add_u32-3.result; before = a.stereo } ≡ wrapped (counted_of a.c a.stereo) = search rules in
    e ∙ unwrapped a.c a.stereo (counts_out a.c h) (omega arith)
