-- Demand 1: no public call of this crate asks anything of its caller. `F.Asked` is what a caller of F has to
-- show, by F's `requires`. Of the generic function `matrix` the language itself asks what its bound says of the
-- type, so it has no line here: .ci/run looks at its text. Assumes nothing.
use mathlib.Core.Path.{◌≡◌, refl}
use Rattle.matrix.proofs.matrix.matrix_f32.Reads as matrix-f32
use Rattle.matrix.proofs.matrix.matrix_q15.Reads as matrix-q15
use Rattle.matrix.proofs.matrix.left_q15.Reads as left-q15
use Rattle.matrix.proofs.matrix.right_q15.Reads as right-q15
use Rattle.matrix.proofs.matrix.F32Sample.left.Reads as f32-left
use Rattle.matrix.proofs.matrix.F32Sample.right.Reads as f32-right
use Rattle.matrix.proofs.matrix.I16Sample.left.Reads as i16-left
use Rattle.matrix.proofs.matrix.I16Sample.right.Reads as i16-right

pub nothing_asked :
    (matrix-f32.Asked ≡ λ κs a. Unit {0})
    × (matrix-q15.Asked ≡ λ κs a. Unit {0})
    × (left-q15.Asked ≡ λ κs a. Unit {0})
    × (right-q15.Asked ≡ λ κs a. Unit {0})
    × (f32-left.Asked ≡ λ κs a. Unit {0})
    × (f32-right.Asked ≡ λ κs a. Unit {0})
    × (i16-left.Asked ≡ λ κs a. Unit {0})
    × (i16-right.Asked ≡ λ κs a. Unit {0})
nothing_asked = (refl, refl, refl, refl, refl, refl, refl, refl)
