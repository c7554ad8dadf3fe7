-- Demand 1: no public call of this crate asks anything of its caller. `F.Asked` is what a caller of F has to
-- show, by F's `requires`. Assumes nothing.
use Rattle.std.proofs.Common.{◌≡◌, refl}
use Rattle.lookup.proofs.lookup.sine_at.Reads as sine-at
use Rattle.lookup.proofs.lookup.sine_at_twice.Reads as sine-at-twice
use Rattle.lookup.proofs.lookup.sine_at_thrice.Reads as sine-at-thrice
use Rattle.lookup.proofs.lookup.cos_f32.Reads as cos-f32
use Rattle.lookup.proofs.lookup.interp_f32_pair.Reads as interp-f32-pair

pub nothing_asked :
    (sine-at.Asked ≡ λ κs a. Unit {0})
    × (sine-at-twice.Asked ≡ λ κs a. Unit {0})
    × (sine-at-thrice.Asked ≡ λ κs a. Unit {0})
    × (cos-f32.Asked ≡ λ κs a. Unit {0})
    × (interp-f32-pair.Asked ≡ λ κs a. Unit {0})
nothing_asked = (refl, refl, refl, refl, refl)
