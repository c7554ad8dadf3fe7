-- Demand 1: no public call of this crate asks anything of its caller. `F.Asked` is what a caller of F has to
-- show, by F's `requires`. Assumes nothing.
use mathlib.Core.Path.{◌≡◌, refl}
use Rattle.decoder_gains.proofs.gains_of.Reads as gains-of
use Rattle.decoder_gains.proofs.is_narrow.Reads as is-narrow
use Rattle.decoder_gains.proofs.common.Reads as common

pub nothing_asked :
    (gains-of.Asked ≡ λ κs a. Unit {0})
    × (is-narrow.Asked ≡ λ κs a. Unit {0})
    × (common.Asked ≡ λ κs a. Unit {0})
nothing_asked = (refl, refl, refl)
