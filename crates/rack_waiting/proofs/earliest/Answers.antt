use mathlib.Core.Path.{◌≡◌, refl, sym, ap, ◌∙◌}
use native.Mathlib.Omega.{arith}
use native.Mathlib.Nat.{sub-zero}
use borrow.Author.Rules.{rules}
use lib.ListN.{drop}
use Rattle.std.proofs.Common.{Err}
use Rattle.answers.specs.Answer.{says}
use Rattle.answers.proofs.Causes.{refuses}
use Rattle.rack_waiting.specs.Waiting.{cause_of}
use Rattle.rack_waiting.proofs.Loops as loops
use Rattle.rack_waiting.proofs.earliest.Goals as goal

pub returns-in_err-block_answer : goal.returns-in_err-block_answer
returns-in_err-block_answer c =
    let a = c.args in
    let e = c.in_err-block_answer in
    let r : c.from_residual.result ≡ Err e.field-0.0 = search rules in
    ap says r
    ∙ sym (loops.stopped (cause_of a.table) a.number c.loop-k.k a.fits a.waiting _ _ _ (omega arith) (search rules) (search rules) e.ensures (refuses e.field-0.0))
    ∙ c.loop-k.invariant

pub loop-k-preserved : goal.loop-k-preserved
loop-k-preserved c =
    let a = c.args in
    loops.passed (cause_of a.table) a.number c.loop-k.k a.fits a.waiting _ _ _ (omega arith) (search rules) (search rules) c.in_ok-block_answer.ensures refl
    ∙ c.loop-k.invariant

pub returns : goal.returns
returns c =
    let a = c.args in
    sym (loops.none_left (cause_of a.table) a.number c.loop-k.k (drop c.loop-k.k a.fits) (drop c.loop-k.k a.waiting) c.loop-k-test.false) ∙ c.loop-k.invariant

pub loop-k-init : goal.loop-k-init
loop-k-init c = rw sub-zero
