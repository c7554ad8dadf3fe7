use mathlib.Core.Path.{refl}
use native.Mathlib.Omega.{arith}
use borrow.Author.Rules.{rules}
use lib.ListN.{length-set}
use Rattle.decoder_record_q15.specs.Records.{pll_of_q15}
use Rattle.decoder_record_q15.specs.Fit.{fit_q15}
use Rattle.rack_waiting.proofs.Loops.{mapped_next}
use Rattle.rack_q15.proofs.fit_records.Goals as goal

pub loop-k-preserved : goal.loop-k-preserved
loop-k-preserved c =
    let i = c.loop-k.invariant in (
      i.0,
      simp length-set i.1,
      mapped_next (λ d. fit_q15 (pll_of_q15 d)) c.loop-k.k c.args.decoders c.loop-k.fit _ c.is_fit.result (omega (arith, i.0)) (omega (arith, i.1)) i.2 c.is_fit.ensures,
    )

pub loop-k-init : goal.loop-k-init
loop-k-init c = (search rules, refl, refl)
