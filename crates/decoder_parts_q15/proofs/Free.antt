-- Demand 1: no public call of this crate asks anything of its caller. `F.Asked` is what a caller of F has to
-- show, by F's `requires`. Assumes nothing.
use mathlib.Core.Path.{◌≡◌, refl}
use Rattle.decoder_parts_q15.proofs.in_q15.decided.Reads as in-q15-decided
use Rattle.decoder_parts_q15.proofs.in_q15.selected.Reads as selected

pub nothing_asked :
    (in-q15-decided.Asked ≡ λ κs a. Unit {0})
    × (selected.Asked ≡ λ κs a. Unit {0})
nothing_asked = (refl, refl)
