use Rattle.phase.specs.Correction.{is_wide}
use Rattle.decoder.specs.F32.{f32}
use Rattle.decoder_record.specs.Records.{pll_of_f32}
use Rattle.decoder_fast.proofs.Counting.{Counting}
use Rattle.decoder_fast.proofs.clean.run_clean.Given as goal

abbrev pub invariant-loop-i : goal.invariant-loop-i
invariant-loop-i l = Counting f32 is_wide l.table l.mpx l.pilot (pll_of_f32 l.initial.st) l.i l.wide l.sum l.difference (pll_of_f32 l.st)
