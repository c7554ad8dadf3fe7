-- `test_samples::sample_f32` meets its contract. Assumes nothing.
use borrow.Author.Tests.{ne_eqb}
use borrow.Author.Rules.{rules}
use mathlib.Core.Path.{◌≡◌}
use Prim.Native.Nat.{◌/◌, ◌^◌}
use Rattle.test_samples.specs.Samples.{sample_f32_of}
use Rattle.test_samples.proofs.sample_f32.Goals as goal

pub returns-in-1 : goal.returns-in-1
unfolding sample_f32_of
returns-in-1 c = rw (c.f64_to_f32.ensures, c.triangle.ensures, c.in-1.is)

pub returns-in-2 : goal.returns-in-2
unfolding sample_f32_of
returns-in-2 c = rw (c.f32_of.ensures, c.in-2.is)

pub returns-in-3 : goal.returns-in-3
unfolding sample_f32_of
returns-in-3 c =
    let d = c in
    rw (c.f32_of-in-3.ensures, c.bounded.ensures, d.drawn.ensures, d.in-3.is)

pub returns-in_default : goal.returns-in_default
unfolding sample_f32_of
returns-in_default c =
    let kind = c.args.spec / 2 ^ 32 in
    let no1 : kind ≡ 1 → ⊥ = search rules in
    let no2 : kind ≡ 2 → ⊥ = search rules in
    let no3 : kind ≡ 3 → ⊥ = search rules in
    rw (c.any_f32.ensures, c.drawn-in_default.ensures, ne_eqb kind 1 no1, ne_eqb kind 2 no2, ne_eqb kind 3 no3)
