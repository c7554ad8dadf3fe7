-- Demand 1: no public call of this crate asks anything of its caller. `F.Asked` is what a caller of F has to
-- show, by F's `requires`. Of the generic function `merged` the language itself asks what its bound says of the
-- type, so it has no line here: .ci/run looks at its text. Assumes nothing.
use mathlib.Core.Path.{◌≡◌, refl}
use Rattle.merged.proofs.in_f32.block.Reads as in_f32

pub nothing_asked :
    in_f32.Asked ≡ λ κs a. Unit {0}
nothing_asked = refl
