-- Demand 1: no public call of this crate asks anything of its caller. `F.Asked` is what a caller of F has to
-- show, by F's `requires`. Assumes nothing.
use mathlib.Core.Path.{◌≡◌, refl}
use Rattle.lookup_q15.proofs.in_q15.cos_q15.Reads as cos-q15
use Rattle.lookup_q15.proofs.in_q15.interp_q15.Reads as interp-q15

pub nothing_asked :
    (cos-q15.Asked ≡ λ κs a. Unit {0})
    × (interp-q15.Asked ≡ λ κs a. Unit {0})
nothing_asked = (refl, refl)
