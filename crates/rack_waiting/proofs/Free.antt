-- Demand 1: no public call of this crate asks anything of its caller. `F.Asked` is what a caller of F has to
-- show, by F's `requires`. Assumes nothing.
use mathlib.Core.Path.{◌≡◌, refl}
use Rattle.rack_waiting.proofs.least.Reads as least
use Rattle.rack_waiting.proofs.parts.Reads as parts
use Rattle.rack_waiting.proofs.round_answer.Reads as round-answer
use Rattle.rack_waiting.proofs.taken.Reads as taken

pub nothing_asked :
    (least.Asked ≡ λ κs a. Unit {0})
    × (parts.Asked ≡ λ κs a. Unit {0})
    × (round-answer.Asked ≡ λ κs a. Unit {0})
    × (taken.Asked ≡ λ κs a. Unit {0})
nothing_asked = (refl, refl, refl, refl)
