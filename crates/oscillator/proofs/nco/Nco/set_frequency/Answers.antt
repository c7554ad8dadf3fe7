use Rattle.std.proofs.Common.{◌≡◌, ℕ, Result, Ok, Err, ap, ◌∙◌, rules}
use lib.Ieee.{Float, binary64, div}
use Rattle.answers.specs.Answer.{says_made, says_changed}
use Rattle.answers.specs.declared.answer.Refusal.{Refusal}
use Rattle.answers.proofs.Causes.{change_by, change_built}
use Rattle.oscillator.specs.Oscillator.{increment_of, causes, increment_for, increment_set, set_frequency_of}
use Rattle.oscillator.specs.declared.nco.Nco.{Nco}
use Rattle.oscillator.proofs.nco.Nco.set_frequency.Goals as goal

-- the changed oscillator from the answer to its increment
from : (o : Nco) (freq rate : Float) (r : Result ℕ Refusal) → says_made r ≡ increment_for freq rate → change_by (increment_set o) o (says_made r) ≡ set_frequency_of o freq rate
unfolding increment_for set_frequency_of
from o freq rate r h = ap (change_by (increment_set o) o) h ∙ change_built (increment_set o) o (causes freq rate) (increment_of (div binary64 freq rate))

pub returns-in_err-self : goal.returns-in_err-self
returns-in_err-self c =
    let o = c.args.self.now in
    let e : c.from_residual.result ≡ Err c.in_err-self.field-0.0 = search rules in
    ap (λ (r : Result (Unit {0}) Refusal). says_changed r o) e ∙ from o c.args.freq c.args.rate (Err c.in_err-self.field-0.0) (c.in_err-self.ensures)

pub returns : goal.returns
returns c = from c.args.self.now c.args.freq c.args.rate (Ok c.in_ok-self.field-0) (c.in_ok-self.ensures)
