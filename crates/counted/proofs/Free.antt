-- Demand 1: no public call of this crate asks anything of its caller. `F.Asked` is what a caller of F has to
-- show, by F's `requires`. Assumes nothing.
use mathlib.Core.Path.{◌≡◌, refl}
use Rattle.counted.proofs.answer_of.Reads as answer-of
use Rattle.counted.proofs.wide_of.Reads as wide_of

pub nothing_asked :
    (answer-of.Asked ≡ λ κs a. Unit {0})
    × (wide_of.Asked ≡ λ κs a. Unit {0})
nothing_asked = (refl, refl)
