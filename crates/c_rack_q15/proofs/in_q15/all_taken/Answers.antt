use mathlib.Core.Path.{refl, sym, ◌∙◌}
use mathlib.Core.List.{map, map-map}
use native.Mathlib.Omega.{arith}
use borrow.Author.Rules.{rules}
use lib.ListN.{length-map, length-set}
use Rattle.decoder_record_q15.specs.Records.{pll_of_q15}
use Rattle.c_decoder.specs.Coded.{taken_of}
use Rattle.c_decoder_q15.specs.CodedQ15.{decoder_of_q15}
use Rattle.rack_waiting.proofs.Loops.{mapped_end, converted_next}
use Rattle.c_rack_q15.proofs.in_q15.all_taken.Goals as goal

pub loop-k-preserved : goal.loop-k-preserved
loop-k-preserved c =
    let i = c.loop-k.invariant in (
      i.0,
      simp length-set i.1,
      converted_next (λ d. taken_of (decoder_of_q15 d)) pll_of_q15 c.loop-k.k c.args.decoders c.loop-k.records _ c.from.result (omega (arith, i.0)) (omega (arith, i.1)) i.2 c.from.ensures,
    )

pub returns : goal.returns
returns c =
    let l = c.loop-k in
    let xs = c.args.decoders in
    mapped_end (λ d. taken_of (decoder_of_q15 d)) 8 l.k xs (map pll_of_q15 l.records) l.invariant.0 (length-map l.records pll_of_q15 ∙ l.invariant.1) c.loop-k-test.false l.invariant.2 ∙ sym (map-map taken_of decoder_of_q15 xs)

pub loop-k-init : goal.loop-k-init
loop-k-init c = (search rules, refl, refl)
