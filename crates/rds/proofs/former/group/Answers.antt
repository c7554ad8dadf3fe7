use mathlib.Core.Path.{refl, sym, ap, ◌∙◌}
use borrow.Author.Tests.{eq-eqb, ne_eqb}
use Rattle.answers.specs.Answer.{accepted}
use Rattle.answers.proofs.Tests.{failed_plain, passed_plain}
use Rattle.rds.specs.Coding.{Sent}
use Rattle.rds.proofs.Groups.{group_is}
use Rattle.rds.proofs.former.group.Goals as goal

pub returns-then-n-ne-BITS : goal.returns-then-n-ne-BITS
returns-then-n-ne-BITS c =
    let a = c.args in
    group_is a.former.carried a.words a.output.now (sym (ne_eqb _ 104 c.if-n-ne-BITS.true)) refl

pub returns-then-not-is_repeated : goal.returns-then-not-is_repeated
returns-then-not-is_repeated c =
    let a = c.args in
    group_is a.former.carried a.words a.output.now (sym (eq-eqb _ 104 c.if-n-ne-BITS.false)) (sym (failed_plain c.is_repeated.ensures c.if-not-is_repeated.true))

pub returns : goal.returns
returns c =
    let a = c.args in
    ap (λ (x : Sent). record { said = accepted; sent = x }) c.send_blocks-carried.ensures
    ∙ group_is a.former.carried a.words a.output.now (sym (eq-eqb _ 104 c.if-n-ne-BITS.false)) (sym (passed_plain c.is_repeated.ensures c.if-not-is_repeated.false))
