-- Demand 1: no public call of this crate asks anything of its caller. `F.Asked` is what a caller of F has to
-- show, by F's `requires`. Assumes nothing.
use mathlib.Core.Path.{◌≡◌, refl}
use Rattle.rack.proofs.round.Reads as round

pub nothing_asked : round.Asked ≡ λ κs a. Unit {0}
nothing_asked = refl
