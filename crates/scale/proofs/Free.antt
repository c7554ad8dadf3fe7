-- Demand 1: no public call of this crate asks anything of its caller. `F.Asked` is what a caller of F has to
-- show, by F's `requires`. Assumes nothing.
use mathlib.Core.Path.{◌≡◌, refl}
use Rattle.scale.proofs.scale.floor_scaled.Reads as floor-scaled
use Rattle.scale.proofs.scale.q15_from_f64.Reads as q15-from-f64
use Rattle.scale.proofs.scale.q14_from_f64.Reads as q14-from-f64

pub nothing_asked :
    (floor-scaled.Asked ≡ λ κs a. Unit {0})
    × (q15-from-f64.Asked ≡ λ κs a. Unit {0})
    × (q14-from-f64.Asked ≡ λ κs a. Unit {0})
nothing_asked = (refl, refl, refl)
