-- `test_samples::sample_q15` meets its contract. Assumes nothing.
use borrow.Author.Tests.{ne_eqb}
use borrow.Author.Rules.{rules}
use Prim.Native.Nat.{◌/◌, ◌^◌}
use mathlib.Core.Path.{◌≡◌, ◌∙◌}
use mir.Syntax.{w16}
use Rattle.rounding.proofs.Lin.{back}
use Rattle.test_samples.specs.Samples.{sample_q15_of}
use Rattle.test_samples.proofs.sample_q15.Goals as goal

pub returns-in-1 : goal.returns-in-1
unfolding sample_q15_of
returns-in-1 c =
    let q = c.q15_from_f64 in
    back w16 q.result q.type_inv ∙ q.ensures ∙ rw (c.triangle.ensures, c.in-1.is)

pub returns-in-2 : goal.returns-in-2
unfolding sample_q15_of
returns-in-2 c = let q = c.i16_of in back w16 q.result q.type_inv ∙ q.ensures ∙ rw c.in-2.is

pub returns-in_default : goal.returns-in_default
unfolding sample_q15_of
returns-in_default c =
    let q = c.i16_of-in_default in
    let kind = c.args.spec / 2 ^ 32 in
    let no1 : kind ≡ 1 → ⊥ = search rules in
    let no2 : kind ≡ 2 → ⊥ = search rules in
    back w16 q.result q.type_inv ∙ q.ensures ∙ rw (c.drawn.ensures, ne_eqb kind 1 no1, ne_eqb kind 2 no2)
