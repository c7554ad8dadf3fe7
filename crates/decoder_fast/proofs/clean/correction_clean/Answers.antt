use Prim.Native.Nat.{ℕ, ◌+◌}
use native.Mathlib.Omega.{arith}
use mathlib.Core.Path.{◌≡◌, sym, ap, ◌∙◌}
use mathlib.Core.Bool.{not, cond}
use Rattle.phase.specs.declared.correction.Corrected.{Corrected}
use Rattle.phase.proofs.Quick.{step_is, wide_is}
use Rattle.decoder_fast.proofs.clean.correction_clean.Goals as goal

-- w and one more where a correction did not go the quick way
abbrev more : ℕ → Corrected → ℕ
more w r = w + cond (not r.quick) 1 0

pub returns-in-Some : goal.returns-in-Some
returns-in-Some c =
    let a = c.args in
    let s = step_is a.f c.in-Some.step (sym c.correction_quick.ensures ∙ c.in-Some.is) in
    let same : a.wide ≡ a.wide + 0 = omega arith in
    record { step = ap (λ (r : Corrected). r.step) s; wide = same ∙ ap (more a.wide) s }

pub returns-in-None : goal.returns-in-None
returns-in-None c =
    let a = c.args in
    let w = wide_is a.f c.correction_plain.result (sym c.correction_quick.ensures ∙ c.in-None.is) c.correction_plain.ensures in
    record { step = c.correction_plain.ensures; wide = ap (more a.wide) w }
