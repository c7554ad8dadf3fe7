-- Demand 1: no public call of this crate asks anything of its caller. `F.Asked` is what a caller of F has to
-- show, by F's `requires`. Assumes nothing.
use mathlib.Core.Path.{◌≡◌, refl}
use Rattle.decoder.proofs.lengths.block_lengths.Reads as block-lengths
use Rattle.decoder.proofs.parts.advanced.Reads as advanced
use Rattle.decoder.proofs.plain.block.Reads as plain-block

pub nothing_asked :
    (block-lengths.Asked ≡ λ κs a. Unit {0})
    × (advanced.Asked ≡ λ κs a. Unit {0})
    × (plain-block.Asked ≡ λ κs a. Unit {0})
nothing_asked = (refl, refl, refl)
