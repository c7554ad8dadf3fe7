use mathlib.Core.Path.{sym, ◌∙◌}
use mir.Syntax.{w32}
use Rattle.lookup.proofs.Between.{entry_at, entry_after, Found, found, between_is, entry_fits, difference_fits, product_fits, half_fits, shift_held, result_fits, result_held, cos_q15_at, cos_q15_lacks}
use Rattle.lookup_q15.proofs.in_q15.interp_q15.Goals.{After-b-1}
use Rattle.lookup_q15.proofs.in_q15.interp_q15.Goals as goal

both : (c : After-b-1) → let a = c.args in Found a.table.now a.p
both c = let a = c.args in found a.table.now a.p c.a-1.given c.b-1.given

pub returns-then-i-table : goal.returns-then-i-table
returns-then-i-table c = let a = c.args in cos_q15_lacks a.table.now a.p c.if-i-table.true

pub returns : goal.returns
returns c =
    result_held w32 tt (both c) (shift_held w32 tt (both c)) ∙ sym (between_is (both c)) ∙ cos_q15_at c.args.table.now c.args.p c.if-i-table.false

pub overflow_cast-a : goal.overflow_cast-a
overflow_cast-a c = let a = c.args in entry_fits w32 tt (entry_at a.table.now a.p) c.a-1.given

pub overflow_cast-b : goal.overflow_cast-b
overflow_cast-b c = let a = c.args in entry_fits w32 tt (entry_after a.table.now a.p) c.b-1.given

pub overflow_sub-result : goal.overflow_sub-result
overflow_sub-result c = difference_fits w32 tt (both c)

pub overflow_mul-result : goal.overflow_mul-result
overflow_mul-result c = product_fits w32 tt (both c)

pub overflow_add-result : goal.overflow_add-result
overflow_add-result c = half_fits w32 tt (both c)

pub overflow_add-result-2 : goal.overflow_add-result-2
overflow_add-result-2 c = result_fits w32 tt (both c) (shift_held w32 tt (both c))
