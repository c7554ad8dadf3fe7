use mathlib.Core.Path.{◌≡◌, ap, ◌∙◌}
use lib.IntN.{ℤ}
use mir.Syntax.{w16, w64}
use Rattle.rounding.proofs.Lin.{back}
use Rattle.numbers.specs.Integers.{sat16_of, round_shift_of}
use Rattle.lookup.specs.Lookup.{between_q15}
use Rattle.lookup.proofs.Between.{entry_at, entry_after, Found, found, product, entry_fits, difference_fits, product_fits, product_held, result_fits, result_held, cos_q15_at, cos_q15_lacks}
use Rattle.lookup_q15.proofs.in_q15.cos_q15.Goals.{After-b-1, After-round_shift}
use Rattle.lookup_q15.proofs.in_q15.cos_q15.Goals as goal

both : (c : After-b-1) → let a = c.args in Found a.table.now a.p
both c = let a = c.args in found a.table.now a.p c.a-1.given c.b-1.given

pub returns-then-i-table : goal.returns-then-i-table
returns-then-i-table c = let a = c.args in cos_q15_lacks a.table.now a.p c.if-i-table.true

shifted : (c : After-round_shift) → c.round_shift.result ≡ round_shift_of (product (both c.before)) 15
shifted c = c.round_shift.ensures ∙ ap (λ (z : ℤ). round_shift_of z 15) (product_held w64 tt (both c.before))

pub returns : goal.returns
unfolding between_q15
returns c =
    let r = c.before in
    let e = r.before.before.before in
    back w16 c.sat16.result c.sat16.type_inv
    ∙ c.sat16.ensures
    ∙ ap sat16_of (result_held w64 tt (both r.before) (shifted r))
    ∙ cos_q15_at e.args.table.now e.args.p e.if-i-table.false

pub overflow_cast-a : goal.overflow_cast-a
overflow_cast-a c = let a = c.args in entry_fits w64 tt (entry_at a.table.now a.p) c.a-1.given

pub overflow_cast-b : goal.overflow_cast-b
overflow_cast-b c = let a = c.args in entry_fits w64 tt (entry_after a.table.now a.p) c.b-1.given

pub overflow_sub-b : goal.overflow_sub-b
overflow_sub-b c = difference_fits w64 tt (both c)

pub overflow_mul-b : goal.overflow_mul-b
overflow_mul-b c = product_fits w64 tt (both c)

pub overflow_add-a : goal.overflow_add-a
overflow_add-a c = result_fits w64 tt (both c.before) (shifted c)
