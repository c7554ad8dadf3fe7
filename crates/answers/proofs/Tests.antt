-- Tests of two parts, and a test `if !b`, where b is a call's answer: what it tells of what the call ensures.
-- Assumes nothing.
use mathlib.Core.Path.{◌≡◌, refl, sym, ◌∙◌}
use mathlib.Core.Bool.{Bool, true, false, not, ◌&&◌, false≢true}
use borrow.Author.Tests.{not-true, not-false}

pub and_out : (a b : Bool) → a && b ≡ true → (a ≡ true) × (b ≡ true)
and_out true b h = (refl, h)
and_out false b h = absurd (false≢true h)

module _ {b said : Bool} (e : b ≡ said) where
  pub failed : not b ≡ true → said ≡ false
  failed h = sym e ∙ not-true _ h

  pub passed : not b ≡ false → said ≡ true
  passed h = sym e ∙ not-false _ h

  -- the same, of the fact that Rattle gives of the test today
  pub failed_plain : b ≡ false → said ≡ false
  failed_plain h = sym e ∙ h

  pub passed_plain : b ≡ true → said ≡ true
  passed_plain h = sym e ∙ h
