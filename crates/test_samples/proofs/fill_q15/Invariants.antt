use lib.ListN.{length}
use Rattle.answers.proofs.Samples.{Filled}
use Rattle.test_samples.specs.Samples.{sample_q15_of}
use Rattle.test_samples.proofs.fill_q15.Given as goal

abbrev pub invariant-loop-i : goal.invariant-loop-i
invariant-loop-i l = Filled (length l.initial.out) (λ k. sample_q15_of l.spec k) l.i l.out
