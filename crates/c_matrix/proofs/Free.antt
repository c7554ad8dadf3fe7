-- The calls of decoders and matrices, and what turns a record from C and back, ask nothing of their caller.
-- `F.Asked` is what a caller of F has to show, by F's `requires`. Assumes nothing.
use mathlib.Core.Path.{◌≡◌, refl}
use Rattle.c_matrix.proofs.matrices.pescrondilu_matrix_f32.Reads as matrix-f32
use Rattle.c_matrix.proofs.matrices.pescrondilu_matrix_q15.Reads as matrix-q15

pub nothing_asked :
    (matrix-f32.Asked ≡ λ κs a. Unit {0})
    × (matrix-q15.Asked ≡ λ κs a. Unit {0})
nothing_asked = (refl, refl)
