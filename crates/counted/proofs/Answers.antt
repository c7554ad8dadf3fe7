-- An answer with a count for each answer and number. Assumes nothing.
use Prim.Native.Nat.{ℕ}
use mathlib.Core.Path.{◌≡◌, refl, sym, ◌∙◌}
use Rattle.std.proofs.Common.{Result, Ok, Err}
use mathlib.Core.Bool.{Bool, true, false, true≢false, false≢true}
use Rattle.std.specs.Result.{is_err}
use Rattle.answers.proofs.Causes.{refuses}
use Rattle.answers.specs.Answer.{Said, accepted, turned, lengths, accepts, says, says_refusal}
use Rattle.answers.specs.declared.answer.Refusal.{Refusal}
use Rattle.counted.specs.Counted.{none, said_in, count_in, carried}

-- whether an answer is a refusal, by the test of it, b
module _ {b : Bool} where
  pub refused_by : (r : Result ℕ Refusal) → b ≡ is_err r → b ≡ true → accepts (said_in r) ≡ false
  refused_by (Ok n) e h = absurd (false≢true (sym e ∙ h))
  refused_by (Err refusal) e h = refuses refusal

  pub accepted_by : (r : Result ℕ Refusal) → b ≡ is_err r → b ≡ false → accepts (said_in r) ≡ true
  accepted_by (Ok n) e h = refl
  accepted_by (Err refusal) e h = absurd (true≢false (sym e ∙ h))

abbrev pub counted_by : Result Unit Refusal → ℕ → Result ℕ Refusal
counted_by (Ok done) n = Ok n
counted_by (Err refusal) n = Err refusal

-- a refusal carries no count
refused_carries : (s : Said) (n : ℕ) → accepts s ≡ false → none ≡ carried s n
refused_carries accepted n h = absurd (true≢false h)
refused_carries (turned k) n h = refl
refused_carries (lengths k wanted found) n h = refl

pub refusal_carries : (refusal : Refusal) (n : ℕ) → none ≡ carried (says_refusal refusal) n
refusal_carries refusal n = refused_carries (says_refusal refusal) n (refuses refusal)

-- it says what the answer says, and carries the number where that is accepted
pub counted_by_lem : (a : Result Unit Refusal) (n : ℕ) → (said_in (counted_by a n) ≡ says a) × (count_in (counted_by a n) ≡ carried (says a) n)
counted_by_lem (Ok done) n = (refl, refl)
counted_by_lem (Err refusal) n = (refl, refusal_carries refusal n)
