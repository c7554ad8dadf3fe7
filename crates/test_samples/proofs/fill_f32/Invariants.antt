use lib.ListN.{length}
use Rattle.answers.proofs.Samples.{Filled}
use Rattle.test_samples.specs.Samples.{sample_f32_of}
use Rattle.test_samples.proofs.fill_f32.Given as goal

abbrev pub invariant-loop-i : goal.invariant-loop-i
invariant-loop-i l = Filled (length l.initial.out) (λ k. sample_f32_of l.spec k) l.i l.out
