use mathlib.Core.Path.{refl, sym, ◌∙◌}
use mathlib.Core.List.{map, map-map}
use native.Mathlib.Omega.{arith}
use borrow.Author.Rules.{rules}
use lib.ListN.{length-map, length-set}
use Rattle.decoder_record.specs.Records.{pll_of_f32}
use Rattle.c_decoder.specs.Coded.{decoder_of_f32, taken_of}
use Rattle.rack_waiting.proofs.Loops.{mapped_end, converted_next}
use Rattle.c_rack.proofs.in_f32.all_taken.Goals as goal

pub loop-k-preserved : goal.loop-k-preserved
loop-k-preserved c =
    let i = c.loop-k.invariant in (
      i.0,
      simp length-set i.1,
      converted_next (λ d. taken_of (decoder_of_f32 d)) pll_of_f32 c.loop-k.k c.args.decoders c.loop-k.records _ c.from.result (omega (arith, i.0)) (omega (arith, i.1)) i.2 c.from.ensures,
    )

pub returns : goal.returns
returns c =
    let l = c.loop-k in
    let xs = c.args.decoders in
    mapped_end (λ d. taken_of (decoder_of_f32 d)) 8 l.k xs (map pll_of_f32 l.records) l.invariant.0 (length-map l.records pll_of_f32 ∙ l.invariant.1) c.loop-k-test.false l.invariant.2 ∙ sym (map-map taken_of decoder_of_f32 xs)

pub loop-k-init : goal.loop-k-init
loop-k-init c = (search rules, refl, refl)
