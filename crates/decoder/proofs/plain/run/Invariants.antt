use Rattle.decoder.specs.F32.{f32}
use Rattle.decoder_record.specs.Records.{pll_of_f32}
use Rattle.decoder.proofs.Loops.{Going}
use Rattle.decoder.proofs.plain.run.Given as goal

abbrev pub invariant-loop-i : goal.invariant-loop-i
invariant-loop-i l = Going f32 l.table l.mpx l.pilot (pll_of_f32 l.initial.st) l.i l.sum l.difference (pll_of_f32 l.st)
