-- Demand 1: no public call of this crate asks anything of its caller. `F.Asked` is what a caller of F has to
-- show, by F's `requires`. Assumes nothing.
use mathlib.Core.Path.{◌≡◌, refl}
use Rattle.cuts.proofs.cut.carries.Reads as carries
use Rattle.cuts.proofs.cut.cut.Reads as cut
use Rattle.cuts.proofs.cut.digits_of.Reads as digits_of
use Rattle.cuts.proofs.cut.place_of.Reads as place_of
use Rattle.cuts.proofs.cut.whole_size.Reads as whole-size

pub nothing_asked :
    (carries.Asked ≡ λ κs a. Unit {0})
    × (cut.Asked ≡ λ κs a. Unit {0})
    × (digits_of.Asked ≡ λ κs a. Unit {0})
    × (place_of.Asked ≡ λ κs a. Unit {0})
    × (whole-size.Asked ≡ λ κs a. Unit {0})
nothing_asked = (refl, refl, refl, refl, refl)
