-- The former's calls ask nothing of their caller. `F.Asked` is what a caller of F has to show, by F's
-- `requires`. Assumes nothing.
use mathlib.Core.Path.{◌≡◌, refl}
use Rattle.c_rds.proofs.pescrondilu_rds_remainder.Reads as remainder
use Rattle.c_rds.proofs.pescrondilu_rds_former_new.Reads as former-new
use Rattle.c_rds.proofs.pescrondilu_rds_group.Reads as group

pub nothing_asked :
    (remainder.Asked ≡ λ κs a. Unit {0})
    × (former-new.Asked ≡ λ κs a. Unit {0})
    × (group.Asked ≡ λ κs a. Unit {0})
nothing_asked = (refl, refl, refl)
