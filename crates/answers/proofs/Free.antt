-- Demand 1: no public call of this crate asks anything of its caller. `F.Asked` is what a caller of F has to
-- show, by F's `requires`. Assumes nothing.
use mathlib.Core.Path.{◌≡◌, refl}
use Rattle.answers.proofs.answer.Refusal.number.Reads as number
use Rattle.answers.proofs.answer.Refusal.code.Reads as code
use Rattle.answers.proofs.answer.table_rule.Reads as table-rule
use Rattle.answers.proofs.answer.input_rule.Reads as input-rule
use Rattle.answers.proofs.answer.output_rule.Reads as output-rule
use Rattle.answers.proofs.answer.inputs_rule.Reads as inputs-rule
use Rattle.answers.proofs.answer.code_of.Reads as code_of_lem
use Rattle.answers.proofs.switch.is_on.Reads as is-on
use Rattle.answers.proofs.switch.switch_of.Reads as switch-of

pub nothing_asked :
    (number.Asked ≡ λ κs a. Unit {0})
    × (code.Asked ≡ λ κs a. Unit {0})
    × (table-rule.Asked ≡ λ κs a. Unit {0})
    × (input-rule.Asked ≡ λ κs a. Unit {0})
    × (output-rule.Asked ≡ λ κs a. Unit {0})
    × (inputs-rule.Asked ≡ λ κs a. Unit {0})
    × (code_of_lem.Asked ≡ λ κs a. Unit {0})
    × (is-on.Asked ≡ λ κs a. Unit {0})
    × (switch-of.Asked ≡ λ κs a. Unit {0})
nothing_asked = (refl, refl, refl, refl, refl, refl, refl, refl, refl)
