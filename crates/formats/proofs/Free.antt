-- Demand 1: no public call of this crate asks anything of its caller. `F.Asked` is what a caller of F has to
-- show, by F's `requires`. Assumes nothing.
use mathlib.Core.Path.{◌≡◌, refl}
use Rattle.formats.proofs.StereoPllF32Decoder.block.Reads as f32-block
use Rattle.formats.proofs.StereoPllQ15Decoder.block.Reads as q15-block

pub nothing_asked :
    (f32-block.Asked ≡ λ κs a. Unit {0})
    × (q15-block.Asked ≡ λ κs a. Unit {0})
nothing_asked = (refl, refl)
