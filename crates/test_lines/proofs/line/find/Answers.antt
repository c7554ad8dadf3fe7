-- `test_lines::line::find` meets its contract. Assumes nothing.
use Prim.Native.Nat.{ℕ, ◌+◌, ◌-◌, ◌*◌, ◌/◌}
use mathlib.Core.Path.{◌≡◌, sym, ◌∙◌}
use mathlib.Core.Bool.{Bool}
use mathlib.Core.List.{List}
use native.Mathlib.Omega.{arith}
use lib.ListN.{length, take, drop}
use Rattle.test_lines.proofs.Reading.{found, passed_by, none_left}
use Rattle.test_lines.specs.Columns.{starts_with, name_at}
use Rattle.test_lines.proofs.line.find.Goals as goal

abbrev test : List ℕ → List ℕ → ℕ → Bool
test line names k = starts_with line (name_at names k)

-- what `starts` said of the part of 16 columns
said : (line names : List ℕ) (k : ℕ) {r t : Bool} → r ≡ starts_with line (take (16 * k + 16 - 16 * k) (drop (16 * k) names)) → r ≡ t → test line names k ≡ t
said line names k e p = let m : 16 * k + 16 - 16 * k ≡ 16 = omega arith in rw m at (sym e ∙ p)

pub loop-k-init : goal.loop-k-init
loop-k-init c = let n = length c.args.names.now / 16 in let e : n - 0 ≡ n = omega arith in rw e

pub starts-requires : goal.starts-requires
starts-requires c = tt

pub returns-then-starts : goal.returns-then-starts
returns-then-starts c =
    let o = c.before.before.before.before in
    let a = o.args in
    sym (found (test a.line.now a.names.now) o.loop-k.k (length a.names.now / 16) (omega arith) (said _ _ o.loop-k.k c.starts.ensures c.if-starts.true)) ∙ o.loop-k.invariant

pub loop-k-preserved : goal.loop-k-preserved
loop-k-preserved c =
    let o = c.before.before.before.before in
    let a = o.args in
    sym (passed_by (test a.line.now a.names.now) o.loop-k.k (length a.names.now / 16) (omega arith) (said _ _ o.loop-k.k c.starts.ensures c.if-starts.false)) ∙ o.loop-k.invariant

pub returns : goal.returns
returns c =
    let o = c.before in
    let a = o.args in
    let all : o.loop-k.k ≡ length a.names.now / 16 = omega arith in
    sym all ∙ sym (none_left (test a.line.now a.names.now) o.loop-k.k (length a.names.now / 16) (omega arith)) ∙ o.loop-k.invariant
