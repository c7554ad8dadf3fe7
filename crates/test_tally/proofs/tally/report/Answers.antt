-- `test_tally::tally::report` meets its contract: a line is written after those before it, and the sums after all.
use Rattle.std.proofs.Common.{◌≡◌, ◌+◌, ◌-◌, ◌*◌, ◌/◌, ◌++◌, take, drop, length, arith, sym, ap, ap₂, ◌∙◌, subst, Result, Ok, Err, OnOk}
use native.Mathlib.Numerals.{add-one}
use Rattle.std.specs.Io.KnownBytes.{Appends}
use Rattle.std.proofs.KnownBytes.{Appends-nil, Appends-trans}
use Rattle.test_tally.specs.Tallies.{count_text, counts_text}
use Rattle.test_tally.proofs.tally.report.Goals as goal

on_ok : {T E P Q : Type 0} (r : Result T E) → (P → Q) → OnOk r P → OnOk r Q
on_ok (Ok x) f w = f w
on_ok (Err e) f w = tt

pub loop-k-init : goal.loop-k-init
loop-k-init g c = Appends-nil _

pub loop-k-preserved : goal.loop-k-preserved
loop-k-preserved g c =
    let t = c.args.t in
    let names = c.args.names.now in
    let k = c.loop-k.k in
    let columns : 16 * k + 16 - 16 * k ≡ 16 = omega arith in
    let line = ap₂ count_text (ap (λ n. take n (drop (16 * k) names)) columns) c.agreed.ensures in
    let next = ap (λ l. counts_text t names k ++ l) line ∙ ap (counts_text t names) (sym (add-one k)) in
    subst (Appends _ _) next (Appends-trans _ _ _ _ _ c.loop-k.invariant c.in_ok-write_count.ensures)

pub returns-clause-written : goal.returns-clause-written
returns-clause-written g c =
    let t = c.args.t in
    let names = c.args.names.now in
    let all : c.loop-k.k ≡ length names / 16 = omega (arith, c.loop-k-test.false, c.loop-k.auto.k-end) in
    let before = subst (λ k. Appends (g.W.Write.contents c.args.out.now) (g.W.Write.contents c.loop-k.out) (counts_text t names k)) all c.loop-k.invariant in
    on_ok c.report_all.result (λ w. Appends-trans _ _ _ _ _ before w) c.report_all.ensures.written
