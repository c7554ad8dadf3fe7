-- Demand 1: no public call of this crate asks anything of its caller. `F.Asked` is what a caller of F has to
-- show, by F's `requires`. Assumes nothing.
use mathlib.Core.Path.{◌≡◌, refl}
use Rattle.rds_blocks.proofs.division.has_place.Reads as has_place
use Rattle.rds_blocks.proofs.division.remainder.Reads as remainder
use Rattle.rds_blocks.proofs.blocks.offset_word.Reads as offset_word
use Rattle.rds_blocks.proofs.blocks.block.Reads as block

pub nothing_asked :
    (has_place.Asked ≡ λ κs a. Unit {0})
    × (remainder.Asked ≡ λ κs a. Unit {0})
    × (offset_word.Asked ≡ λ κs a. Unit {0})
    × (block.Asked ≡ λ κs a. Unit {0})
nothing_asked = (refl, refl, refl, refl)
