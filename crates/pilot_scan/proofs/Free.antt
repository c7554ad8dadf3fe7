-- Demand 1: the scan asks nothing of its caller. `F.Asked` is what a caller of F has to show, by F's `requires`.
-- Assumes nothing.
use mathlib.Core.Path.{◌≡◌, refl}
use Rattle.pilot_scan.proofs.scan.Reads as scan

pub nothing_asked : scan.Asked ≡ λ κs a. Unit {0}
nothing_asked = refl
