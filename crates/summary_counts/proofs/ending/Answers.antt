use Rattle.std.proofs.Common.{◌≡◌, ℕ, ◌+◌, ◌-◌, ◌/◌, ◌<◌, ◌≤◌, true, sym, ◌∙◌, div-le_self, arith, Bool}
use native.Mathlib.Nat.{div-eq_of_lt, div-eq-sub-div}
use Rattle.answers.proofs.Tests.{failed_plain, passed_plain}
use Rattle.summary_counts.specs.declared.Counts.{Counts}
use Rattle.summary_counts.specs.Counts.{held_of, counts_fit}
use Rattle.summary_counts.proofs.Fits.{Counted, counts_out}
use Rattle.summary_counts.proofs.ending.Goals as goal

pub returns-then-not-is_fit : goal.returns-then-not-is_fit
returns-then-not-is_fit c = rw (failed_plain c.is_fit.ensures c.if-not-is_fit.true)

-- what is held, beside its period
below : {c : Counts} {b : Bool} → b ≡ counts_fit c → b ≡ true → Counted c
below {c} e h = counts_out c (passed_plain e h)

pub overflow_sub-room : goal.overflow_sub-room
overflow_sub-room c = omega (arith, c.held.ensures, (below c.is_fit.ensures c.if-not-is_fit.false).below)

pub returns-then-n-room : goal.returns-then-n-room
returns-then-n-room c =
    rw (passed_plain c.is_fit.ensures c.if-not-is_fit.false) (sym (div-eq_of_lt (omega (arith, c.held.ensures, c.if-n-room.true, (below c.is_fit.ensures c.if-not-is_fit.false).below))))

pub nonzero_div-result : goal.nonzero_div-result
nonzero_div-result c = omega (arith, (below c.is_fit.ensures c.if-not-is_fit.false).below)

pub overflow_add-result : goal.overflow_add-result
overflow_add-result c =
    let a = c.args in
    omega (arith, div-le_self (a.n - (a.c.period - c.held.result)) a.c.period, c.held.ensures, (below c.is_fit.ensures c.if-not-is_fit.false).below, c.if-n-room.false, c.ranges.n)

-- the first period ends, and others in what comes after it
first_ends : (h n p : ℕ) → h < p → p - h ≤ n → (h + n) / p ≡ 1 + (n - (p - h)) / p
first_ends h n p l m = div-eq-sub-div (omega arith) (omega arith) ∙ rest (h + n - p) (n - (p - h)) (omega arith)
  where
    rest : (a b : ℕ) → a ≡ b → a / p + 1 ≡ 1 + b / p
    rest a b e = rw e (swapped (b / p))
      where
        swapped : (q : ℕ) → q + 1 ≡ 1 + q
        swapped q = omega arith

pub returns : goal.returns
returns c =
    let a = c.args in
    rw (passed_plain c.is_fit.ensures c.if-not-is_fit.false, c.held.ensures)
    (sym (first_ends (held_of a.c) a.n a.c.period (below c.is_fit.ensures c.if-not-is_fit.false).below (omega (arith, c.held.ensures, c.if-n-room.false))))
