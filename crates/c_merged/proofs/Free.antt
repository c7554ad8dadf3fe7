-- The merged blocks ask nothing of their caller. `F.Asked` is what a caller of F has to show, by F's
-- `requires`. Assumes nothing.
use mathlib.Core.Path.{◌≡◌, refl}
use Rattle.c_merged.proofs.in_f32.pescrondilu_f32_merged_block.Reads as in_f32
use Rattle.c_merged.proofs.in_q15.pescrondilu_q15_merged_block.Reads as in_q15

pub nothing_asked :
    (in_f32.Asked ≡ λ κs a. Unit {0})
    × (in_q15.Asked ≡ λ κs a. Unit {0})
nothing_asked = (refl, refl)
