-- Demand 1: no public call of this crate asks anything of its caller. `F.Asked` is what a caller of F has to
-- show, by F's `requires`. Assumes nothing.
use Rattle.std.proofs.Common.{◌≡◌, refl}
use Rattle.floats.proofs.bits.floor_f64.Reads as floor-f64
use Rattle.floats.proofs.bits.half_even_f64.Reads as half-even-f64
use Rattle.floats.proofs.bits.f64_to_f32.Reads as f64-to-f32
use Rattle.floats.proofs.bits.i64_to_f64.Reads as i64-to-f64
use Rattle.floats.proofs.bits.f64_to_i64.Reads as f64-to-i64
use Rattle.floats.proofs.bits.floor_to_i64.Reads as floor-to-i64

pub nothing_asked :
    (floor-f64.Asked ≡ λ κs a. Unit {0})
    × (half-even-f64.Asked ≡ λ κs a. Unit {0})
    × (f64-to-f32.Asked ≡ λ κs a. Unit {0})
    × (i64-to-f64.Asked ≡ λ κs a. Unit {0})
    × (f64-to-i64.Asked ≡ λ κs a. Unit {0})
    × (floor-to-i64.Asked ≡ λ κs a. Unit {0})
nothing_asked = (refl, refl, refl, refl, refl, refl)
