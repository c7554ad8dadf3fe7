-- Demand 1: no public call of this crate asks anything of its caller. `F.Asked` is what a caller of F has to
-- show, by F's `requires`. Assumes nothing.
use mathlib.Core.Path.{◌≡◌, refl}
use Rattle.summary.proofs.block.Reads as block

pub nothing_asked : block.Asked ≡ λ κs a. Unit {0}
nothing_asked = refl
