use mathlib.Core.Path.{◌≡◌, ◌∙◌}
use lib.IntN.{◌*ℤ◌}
use mir.Syntax.{w16, w64}
use mir.Val.{to_z, of_z}
use mir.Facts.{to_z-of_z}
use Rattle.rounding.proofs.Lin.{back}
use Rattle.lookup.specs.Lookup.{sine_at, cos_q15}
use Rattle.decoder_q15.specs.Q15.{level_q15}
use Rattle.decoder_record_q15.specs.Records.{pll_of_q15}
use Rattle.decoder_record_q15.proofs.Fit.{level_fit_lem}
use Rattle.decoder_record_q15.proofs.Held.{Held, held}
use Rattle.decoder_q15.proofs.Kept.{ki_room, guard_below}
use Rattle.decoder_q15.proofs.Samples.{step_q15_is, product_small}
use Rattle.decoder_q15.proofs.plain.step.Goals as goal

pub level_next-level-requires : goal.level_next-level-requires
level_next-level-requires c = record { level = rw (to_z-of_z (let it : Held c.args.d = held _ c.struct_told-1.given in it).beta, to_z-of_z (let it : Held c.args.d = held _ c.struct_told-1.given in it).level) (level_fit_lem (pll_of_q15 c.args.d) c.requires); product = product_small (c.args.table.now) c.args.p (sine_at 1 (pll_of_q15 c.args.d).moving.phase) c.ranges.p (let it : (to_z w64 (of_z w64 c.q15_product.result) ≡ c.args.p *ℤ cos_q15 ((c.args.table.now)) (sine_at 1 ((pll_of_q15 c.args.d)).moving.phase)) = back w64 c.q15_product.result c.q15_product.type_inv ∙ c.q15_product.ensures ∙ rw (to_z-of_z c.ranges.p, (let it : (to_z w16 (of_z w16 c.cos_q15-s.result) ≡ cos_q15 (c.args.table.now) (sine_at 1 (pll_of_q15 c.args.d).moving.phase)) = back w16 c.cos_q15-s.result c.cos_q15-s.type_inv ∙ c.cos_q15-s.ensures ∙ rw c.sine_at.ensures in it)) in it) }

pub scaled_sum-requires : goal.scaled_sum-requires
scaled_sum-requires c =
    let k = (let it : Held c.args.d = held _ c.struct_told-1.given in it) in
    record { error = product_small (c.args.table.now) c.args.p (pll_of_q15 c.args.d).moving.phase c.ranges.p (let it : (to_z w64 (of_z w64 c.q15_product-e.result) ≡ c.args.p *ℤ cos_q15 ((c.args.table.now)) ((pll_of_q15 c.args.d)).moving.phase) = back w64 c.q15_product-e.result c.q15_product-e.type_inv ∙ c.q15_product-e.ensures ∙ rw (to_z-of_z c.ranges.p, (let it : to_z w16 (of_z w16 c.cos_q15-c.result) ≡ cos_q15 (c.args.table.now) (pll_of_q15 c.args.d).moving.phase = back w16 c.cos_q15-c.result c.cos_q15-c.type_inv ∙ c.cos_q15-c.ensures in it)) in it); fits = rw (to_z-of_z k.ki, to_z-of_z k.integ) (ki_room (pll_of_q15 c.args.d) c.requires) }

pub advanced-next-requires : goal.advanced-next-requires
advanced-next-requires c =
    let k = (let it : Held c.args.d = held _ c.struct_told-1.given in it) in
    record { fit = c.requires; error = product_small (c.args.table.now) c.args.p (pll_of_q15 c.args.d).moving.phase c.ranges.p (let it : (to_z w64 (of_z w64 c.q15_product-e.result) ≡ c.args.p *ℤ cos_q15 ((c.args.table.now)) ((pll_of_q15 c.args.d)).moving.phase) = back w64 c.q15_product-e.result c.q15_product-e.type_inv ∙ c.q15_product-e.ensures ∙ rw (to_z-of_z c.ranges.p, (let it : to_z w16 (of_z w16 c.cos_q15-c.result) ≡ cos_q15 (c.args.table.now) (pll_of_q15 c.args.d).moving.phase = back w16 c.cos_q15-c.result c.cos_q15-c.type_inv ∙ c.cos_q15-c.ensures in it)) in it); gathered = back w64 c.scaled_sum.result c.scaled_sum.type_inv ∙ c.scaled_sum.ensures ∙ rw (to_z-of_z k.ki, to_z-of_z k.integ); largest = guard_below (pll_of_q15 c.args.d) c.requires }

pub returns : goal.returns
returns c =
    rw (back w16 c.selected.result c.selected.type_inv)
    (step_q15_is (c.args.table.now) (pll_of_q15 c.args.d) c.args.x c.args.p (let it : (to_z w64 (of_z w64 c.q15_product-e.result) ≡ c.args.p *ℤ cos_q15 ((c.args.table.now)) ((pll_of_q15 c.args.d)).moving.phase) = back w64 c.q15_product-e.result c.q15_product-e.type_inv ∙ c.q15_product-e.ensures ∙ rw (to_z-of_z c.ranges.p, (let it : to_z w16 (of_z w16 c.cos_q15-c.result) ≡ cos_q15 (c.args.table.now) (pll_of_q15 c.args.d).moving.phase = back w16 c.cos_q15-c.result c.cos_q15-c.type_inv ∙ c.cos_q15-c.ensures in it)) in it) (let it : (to_z w64 (of_z w64 c.level_next-level.result) ≡ level_q15 ((pll_of_q15 c.args.d)).gains.beta ((pll_of_q15 c.args.d)).moving.level (c.args.p *ℤ cos_q15 ((c.args.table.now)) (sine_at 1 ((pll_of_q15 c.args.d)).moving.phase))) = back w64 c.level_next-level.result c.level_next-level.type_inv ∙ c.level_next-level.ensures ∙ rw (to_z-of_z ((let it : Held c.args.d = held _ c.struct_told-1.given in it)).beta, to_z-of_z ((let it : Held c.args.d = held _ c.struct_told-1.given in it)).level, (let it : (to_z w64 (of_z w64 c.q15_product.result) ≡ c.args.p *ℤ cos_q15 (c.args.table.now) (sine_at 1 (pll_of_q15 c.args.d).moving.phase)) = back w64 c.q15_product.result c.q15_product.type_inv ∙ c.q15_product.ensures ∙ rw (to_z-of_z c.ranges.p, (let it : (to_z w16 (of_z w16 c.cos_q15-s.result) ≡ cos_q15 (c.args.table.now) (sine_at 1 (pll_of_q15 c.args.d).moving.phase)) = back w16 c.cos_q15-s.result c.cos_q15-s.type_inv ∙ c.cos_q15-s.ensures ∙ rw c.sine_at.ensures in it)) in it)) in it) c.advanced-next.ensures
    (back w16 c.q15_mul.result c.q15_mul.type_inv ∙ c.q15_mul.ensures ∙ rw (to_z-of_z c.ranges.x, (let it : (to_z w16 (of_z w16 c.cos_q15-s2.result) ≡ cos_q15 (c.args.table.now) (sine_at 2 (pll_of_q15 c.args.d).moving.phase)) = back w16 c.cos_q15-s2.result c.cos_q15-s2.type_inv ∙ c.cos_q15-s2.ensures ∙ rw c.sine_at_twice.ensures in it)))
    c.selected.ensures)
