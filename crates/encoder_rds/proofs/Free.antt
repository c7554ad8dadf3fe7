-- Demand 1: the public call of this crate asks nothing of its caller. `F.Asked` is what a caller of F has to
-- show, by F's `requires`. Assumes nothing.
use Rattle.std.proofs.Common.{◌≡◌, refl}
use Rattle.encoder_rds.proofs.rds.encode.Reads as encode

pub nothing_asked : encode.Asked ≡ λ κs a. Unit {0}
nothing_asked = refl
