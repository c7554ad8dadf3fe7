use mathlib.Core.Path.{◌≡◌, ◌∙◌}
use lib.IntN.{ℤ, ◌*ℤ◌}
use mir.Syntax.{w16, w32, w64}
use mir.Val.{to_z, of_z}
use mir.Facts.{to_z-of_z}
use native.Mathlib.Omega.{arith}
use lib.Signed.{le_z}
use mathlib.Core.Bool.{true}
use Rattle.rounding.proofs.Lin.{back, le_yes_in}
use Rattle.lookup.specs.Lookup.{sine_at, cos_q15}
use Rattle.decoder_q15.specs.Q15.{level_q15}
use Rattle.decoder_record_q15.specs.Records.{pll_of_q15}
use Rattle.decoder_record_q15.specs.Fit.{guard_of}
use Rattle.decoder_record_q15.proofs.Fit.{fitted, level_fit_lem}
use Rattle.decoder_record_q15.proofs.Held.{Held, held}
use Rattle.decoder_q15.proofs.Kept.{ki_room, guard_room}
use Rattle.decoder_q15.proofs.Samples.{step_q15_is, lookup_le, product_small}
use Rattle.decoder_q15.proofs.fast.step.Goals as goal

order-refl : (z : ℤ) → le_z z z ≡ true
order-refl z = le_yes_in z z (omega arith)

pub product-requires : goal.product-requires
product-requires c =
    lookup_le (c.args.table.now) (sine_at 1 (pll_of_q15 c.args.d).moving.phase) (let it : (to_z w32 (of_z w32 c.interp_q15-s.result) ≡ cos_q15 ((c.args.table.now)) (sine_at 1 ((pll_of_q15 c.args.d)).moving.phase)) = back w32 c.interp_q15-s.result c.interp_q15-s.type_inv ∙ c.interp_q15-s.ensures ∙ rw c.sine_at.ensures in it)

pub level_next-level-requires : goal.level_next-level-requires
level_next-level-requires c = record { level = rw (to_z-of_z (let it : Held c.args.d = held _ c.struct_told-1.given in it).beta, to_z-of_z (let it : Held c.args.d = held _ c.struct_told-1.given in it).level) (level_fit_lem (pll_of_q15 c.args.d) c.requires); product = product_small (c.args.table.now) c.args.p (sine_at 1 (pll_of_q15 c.args.d).moving.phase) c.ranges.p (let it : (to_z w64 (of_z w64 c.product.result) ≡ c.args.p *ℤ cos_q15 ((c.args.table.now)) (sine_at 1 ((pll_of_q15 c.args.d)).moving.phase)) = back w64 c.product.result c.product.type_inv ∙ c.product.ensures ∙ rw (to_z-of_z c.ranges.p, (let it : (to_z w32 (of_z w32 c.interp_q15-s.result) ≡ cos_q15 (c.args.table.now) (sine_at 1 (pll_of_q15 c.args.d).moving.phase)) = back w32 c.interp_q15-s.result c.interp_q15-s.type_inv ∙ c.interp_q15-s.ensures ∙ rw c.sine_at.ensures in it)) in it) }

pub scaled_sum-largest-requires : goal.scaled_sum-largest-requires
scaled_sum-largest-requires c =
    let k = (let it : Held c.args.d = held _ c.struct_told-1.given in it) in
    rw (to_z-of_z k.kp, to_z-of_z k.imax) (record { error = omega arith; fits = guard_room (pll_of_q15 c.args.d) c.requires })

pub product-requires-2 : goal.product-requires-2
product-requires-2 c =
    lookup_le (c.args.table.now) (pll_of_q15 c.args.d).moving.phase (let it : to_z w32 (of_z w32 c.interp_q15-c.result) ≡ cos_q15 ((c.args.table.now)) ((pll_of_q15 c.args.d)).moving.phase = back w32 c.interp_q15-c.result c.interp_q15-c.type_inv ∙ c.interp_q15-c.ensures in it)

pub gathered-requires : goal.gathered-requires
gathered-requires c =
    let k = (let it : Held c.args.d = held _ c.struct_told-1.given in it) in
    record {
      cosine = lookup_le (c.args.table.now) (pll_of_q15 c.args.d).moving.phase (let it : to_z w32 (of_z w32 c.interp_q15-c.result) ≡ cos_q15 ((c.args.table.now)) ((pll_of_q15 c.args.d)).moving.phase = back w32 c.interp_q15-c.result c.interp_q15-c.type_inv ∙ c.interp_q15-c.ensures in it);
      gain = rw (to_z-of_z k.ki) (fitted (pll_of_q15 c.args.d) c.requires).ki;
      fits = rw (to_z-of_z k.ki, to_z-of_z k.integ) (ki_room (pll_of_q15 c.args.d) c.requires);
    }

pub advanced-next-requires : goal.advanced-next-requires
advanced-next-requires c =
    let k = (let it : Held c.args.d = held _ c.struct_told-1.given in it) in
    record { fit = c.requires; error = product_small (c.args.table.now) c.args.p (pll_of_q15 c.args.d).moving.phase c.ranges.p (let it : (to_z w64 (of_z w64 c.product-2.result) ≡ c.args.p *ℤ cos_q15 ((c.args.table.now)) ((pll_of_q15 c.args.d)).moving.phase) = back w64 c.product-2.result c.product-2.type_inv ∙ c.product-2.ensures ∙ rw (to_z-of_z c.ranges.p, (let it : to_z w32 (of_z w32 c.interp_q15-c.result) ≡ cos_q15 (c.args.table.now) (pll_of_q15 c.args.d).moving.phase = back w32 c.interp_q15-c.result c.interp_q15-c.type_inv ∙ c.interp_q15-c.ensures in it)) in it); gathered = back w64 c.gathered.result c.gathered.type_inv ∙ c.gathered.ensures ∙ rw (to_z-of_z k.ki, to_z-of_z c.ranges.p, (let it : to_z w32 (of_z w32 c.interp_q15-c.result) ≡ cos_q15 (c.args.table.now) (pll_of_q15 c.args.d).moving.phase = back w32 c.interp_q15-c.result c.interp_q15-c.type_inv ∙ c.interp_q15-c.ensures in it), to_z-of_z k.integ, (let it : (to_z w64 (of_z w64 c.product-2.result) ≡ c.args.p *ℤ cos_q15 (c.args.table.now) (pll_of_q15 c.args.d).moving.phase) = back w64 c.product-2.result c.product-2.type_inv ∙ c.product-2.ensures ∙ rw (to_z-of_z c.ranges.p, (let it : to_z w32 (of_z w32 c.interp_q15-c.result) ≡ cos_q15 (c.args.table.now) (pll_of_q15 c.args.d).moving.phase = back w32 c.interp_q15-c.result c.interp_q15-c.type_inv ∙ c.interp_q15-c.ensures in it)) in it)); largest = rw (let it : (to_z w64 (of_z w64 c.scaled_sum-largest.result) ≡ guard_of ((pll_of_q15 c.args.d)).gains.kp ((pll_of_q15 c.args.d)).gains.imax) = let k = (let it : Held c.args.d = held _ c.struct_told-1.given in it) in back w64 c.scaled_sum-largest.result c.scaled_sum-largest.type_inv ∙ c.scaled_sum-largest.ensures ∙ rw (to_z-of_z k.kp, to_z-of_z k.imax) in it) (order-refl (guard_of (pll_of_q15 c.args.d).gains.kp (pll_of_q15 c.args.d).gains.imax)) }

pub demodulated-requires : goal.demodulated-requires
demodulated-requires c =
    lookup_le (c.args.table.now) (sine_at 2 (pll_of_q15 c.args.d).moving.phase) (let it : (to_z w32 (of_z w32 c.interp_q15-s2.result) ≡ cos_q15 ((c.args.table.now)) (sine_at 2 ((pll_of_q15 c.args.d)).moving.phase)) = back w32 c.interp_q15-s2.result c.interp_q15-s2.type_inv ∙ c.interp_q15-s2.ensures ∙ rw c.sine_at_twice.ensures in it)

pub returns : goal.returns
returns c =
    rw (back w16 c.selected.result c.selected.type_inv)
    (step_q15_is (c.args.table.now) (pll_of_q15 c.args.d) c.args.x c.args.p (let it : (to_z w64 (of_z w64 c.product-2.result) ≡ c.args.p *ℤ cos_q15 ((c.args.table.now)) ((pll_of_q15 c.args.d)).moving.phase) = back w64 c.product-2.result c.product-2.type_inv ∙ c.product-2.ensures ∙ rw (to_z-of_z c.ranges.p, (let it : to_z w32 (of_z w32 c.interp_q15-c.result) ≡ cos_q15 (c.args.table.now) (pll_of_q15 c.args.d).moving.phase = back w32 c.interp_q15-c.result c.interp_q15-c.type_inv ∙ c.interp_q15-c.ensures in it)) in it) (let it : (to_z w64 (of_z w64 c.level_next-level.result) ≡ level_q15 ((pll_of_q15 c.args.d)).gains.beta ((pll_of_q15 c.args.d)).moving.level (c.args.p *ℤ cos_q15 ((c.args.table.now)) (sine_at 1 ((pll_of_q15 c.args.d)).moving.phase))) = back w64 c.level_next-level.result c.level_next-level.type_inv ∙ c.level_next-level.ensures ∙ rw (to_z-of_z ((let it : Held c.args.d = held _ c.struct_told-1.given in it)).beta, to_z-of_z ((let it : Held c.args.d = held _ c.struct_told-1.given in it)).level, (let it : (to_z w64 (of_z w64 c.product.result) ≡ c.args.p *ℤ cos_q15 (c.args.table.now) (sine_at 1 (pll_of_q15 c.args.d).moving.phase)) = back w64 c.product.result c.product.type_inv ∙ c.product.ensures ∙ rw (to_z-of_z c.ranges.p, (let it : (to_z w32 (of_z w32 c.interp_q15-s.result) ≡ cos_q15 (c.args.table.now) (sine_at 1 (pll_of_q15 c.args.d).moving.phase)) = back w32 c.interp_q15-s.result c.interp_q15-s.type_inv ∙ c.interp_q15-s.ensures ∙ rw c.sine_at.ensures in it)) in it)) in it) c.advanced-next.ensures
    (back w16 c.demodulated.result c.demodulated.type_inv ∙ c.demodulated.ensures ∙ rw (to_z-of_z c.ranges.x, (let it : (to_z w32 (of_z w32 c.interp_q15-s2.result) ≡ cos_q15 (c.args.table.now) (sine_at 2 (pll_of_q15 c.args.d).moving.phase)) = back w32 c.interp_q15-s2.result c.interp_q15-s2.type_inv ∙ c.interp_q15-s2.ensures ∙ rw c.sine_at_twice.ensures in it)))
    c.selected.ensures)
