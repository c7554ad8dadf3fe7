-- Demand 1: no public call of this crate asks anything of its caller. `F.Asked` is what a caller of F has to
-- show, by F's `requires`. Assumes nothing.
use mathlib.Core.Path.{◌≡◌, refl}
use Rattle.c_rack_slices_q15.proofs.in_q15.pescrondilu_q15_rack_round_slices.Reads as in_q15

pub nothing_asked :
    in_q15.Asked ≡ λ κs a. Unit {0}
nothing_asked = refl
