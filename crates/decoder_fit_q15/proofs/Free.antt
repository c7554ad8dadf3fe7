-- Demand 1: no public call of this crate asks anything of its caller. `F.Asked` is what a caller of F has to
-- show, by F's `requires`. Assumes nothing.
use mathlib.Core.Path.{◌≡◌, refl}
use Rattle.decoder_fit_q15.proofs.fit.is_fit.Reads as is-fit

pub nothing_asked :
    is-fit.Asked ≡ λ κs a. Unit {0}
nothing_asked = refl
