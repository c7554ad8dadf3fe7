-- Demand 1: no public call of this crate asks anything of its caller. `F.Asked` is what a caller of F has to
-- show, by F's `requires`. Assumes nothing.
use mathlib.Core.Path.{◌≡◌, refl}
use Rattle.rds.proofs.former.RdsFormer.new.Reads as new
use Rattle.rds.proofs.former.group.Reads as group

pub nothing_asked :
    (new.Asked ≡ λ κs a. Unit {0})
    × (group.Asked ≡ λ κs a. Unit {0})
nothing_asked = (refl, refl)
