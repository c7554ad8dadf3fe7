use Rattle.std.proofs.Common.{◌≡◌, ℕ, Result, Ok, Err, ap, ◌∙◌, rules}
use lib.Ieee.{Float, binary64, div}
use Rattle.answers.specs.Answer.{map_built, says_made}
use Rattle.answers.specs.declared.answer.Refusal.{Refusal}
use Rattle.answers.proofs.Causes.{map_built_lem}
use Rattle.oscillator.specs.Oscillator.{increment_of, causes, increment_for, fresh, new_of}
use Rattle.oscillator.proofs.nco.Nco.new.Goals as goal

-- a new oscillator from the answer to its increment
from : (freq rate : Float) (r : Result ℕ Refusal) → says_made r ≡ increment_for freq rate → map_built fresh (says_made r) ≡ new_of freq rate
unfolding increment_for new_of
from freq rate r h = ap (map_built fresh) h ∙ map_built_lem fresh (causes freq rate) (increment_of (div binary64 freq rate))

pub returns-in_err-inc : goal.returns-in_err-inc
returns-in_err-inc c =
    let e : c.from_residual.result ≡ Err c.in_err-inc.field-0.0 = search rules in
    ap says_made e ∙ from c.args.freq c.args.rate (Err c.in_err-inc.field-0.0) (c.in_err-inc.ensures)

pub returns : goal.returns
returns c = from c.args.freq c.args.rate (Ok c.in_ok-inc.inc) (c.in_ok-inc.ensures)
