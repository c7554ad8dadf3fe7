-- Demand 1: no public call of this crate asks anything of its caller. `F.Asked` is what a caller of F has to
-- show, by F's `requires`. Assumes nothing.
use Rattle.std.proofs.Common.{◌≡◌, refl}
use Rattle.finite.proofs.finite.is_finite_f32.Reads as is-finite-f32
use Rattle.finite.proofs.finite.is_finite_f64.Reads as is-finite-f64
use Rattle.finite.proofs.finite.is_positive_f64.Reads as is-positive-f64
use Rattle.finite.proofs.finite.f32_to_f64.Reads as f32-to-f64

pub nothing_asked :
    (is-finite-f32.Asked ≡ λ κs a. Unit {0})
    × (is-finite-f64.Asked ≡ λ κs a. Unit {0})
    × (is-positive-f64.Asked ≡ λ κs a. Unit {0})
    × (f32-to-f64.Asked ≡ λ κs a. Unit {0})
nothing_asked = (refl, refl, refl, refl)
