use mathlib.Core.Path.{◌≡◌}
use Rattle.phase.specs.Correction.{is_wide}
use Rattle.decoder_record.specs.Records.{pll_of_f32}
use Rattle.decoder.specs.F32.{f32}
use Rattle.decoder_fast.specs.Wide.{wide_up_to}
use Rattle.summary_record.specs.F32.{unsigned_f32}
use Rattle.summary_record.proofs.Sign.{unsigned_f32_lem}
use Rattle.summary_call.proofs.Noting.{Noting}
use Rattle.summary.proofs.run.Given as goal

abbrev pub invariant-loop-i : goal.invariant-loop-i
invariant-loop-i l =
    (l.wide ≡ wide_up_to f32 is_wide l.table l.mpx l.pilot (pll_of_f32 l.initial.st) l.i)
    × Noting f32 unsigned_f32 unsigned_f32_lem l.table l.mpx l.pilot (pll_of_f32 l.initial.st) (record { counts = l.initial.counts; magnitude = l.initial.magnitude }) l.i l.k l.sum l.difference
    (record { stereo = l.stereos; mono = l.monos; changes = l.changes; magnitude = l.magnitudes }) (pll_of_f32 l.st) (record { counts = l.counts; magnitude = l.magnitude })
