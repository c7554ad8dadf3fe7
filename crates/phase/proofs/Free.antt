-- Demand 1: no public call of this crate asks anything of its caller. `F.Asked` is what a caller of F has to
-- show, by F's `requires`. Assumes nothing.
use Rattle.std.proofs.Common.{◌≡◌, refl}
use Rattle.phase.proofs.correction.correction_plain.Reads as correction-plain
use Rattle.phase.proofs.correction.quick_serves.Reads as quick-serves
use Rattle.phase.proofs.correction.correction_quick.Reads as correction-quick
use Rattle.phase.proofs.correction.correction_fast.Reads as correction-fast

pub nothing_asked :
    (correction-plain.Asked ≡ λ κs a. Unit {0})
    × (quick-serves.Asked ≡ λ κs a. Unit {0})
    × (correction-quick.Asked ≡ λ κs a. Unit {0})
    × (correction-fast.Asked ≡ λ κs a. Unit {0})
nothing_asked = (refl, refl, refl, refl)
