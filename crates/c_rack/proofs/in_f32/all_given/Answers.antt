use mathlib.Core.Path.{refl, sym, ◌∙◌}
use mathlib.Core.List.{map, map-map}
use native.Mathlib.Omega.{arith}
use borrow.Author.Rules.{rules}
use lib.ListN.{length-map, length-set}
use Rattle.decoder_record.specs.Records.{pll_of_f32}
use Rattle.c_decoder.specs.Coded.{decoder_of_f32, given_of}
use Rattle.rack_waiting.proofs.Loops.{mapped_end, converted_next}
use Rattle.c_rack.proofs.in_f32.all_given.Goals as goal

pub loop-k-preserved : goal.loop-k-preserved
loop-k-preserved c =
    let t = c.before.before.before in
    let i = t.loop-k.invariant in (
      i.0,
      simp length-set i.1,
      converted_next (λ t. given_of (pll_of_f32 t)) decoder_of_f32 t.loop-k.k t.args.records t.loop-k.decoders _ c.from.result (omega (arith, i.0)) (omega (arith, i.1)) i.2 c.from.ensures,
    )

pub returns : goal.returns
returns c =
    let l = c.loop-k in
    let xs = c.args.records in
    mapped_end (λ t. given_of (pll_of_f32 t)) 8 l.k xs (map decoder_of_f32 l.decoders) l.invariant.0 (length-map l.decoders decoder_of_f32 ∙ l.invariant.1) c.loop-k-test.false l.invariant.2 ∙ sym (map-map given_of pll_of_f32 xs)

pub loop-k-init : goal.loop-k-init
loop-k-init c = (search rules, refl, refl)
