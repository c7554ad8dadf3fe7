-- The calls of oscillator, encoders and verdict ask nothing of their caller. `F.Asked` is what a caller of F
-- has to show, by F's `requires`. Assumes nothing.
use mathlib.Core.Path.{◌≡◌, refl}
use Rattle.c_encoder_rds.proofs.rds.pescrondilu_encode_rds_new.Reads as rds-new
use Rattle.c_encoder_rds.proofs.rds.pescrondilu_encode_rds_set_pilot.Reads as rds-set-pilot
use Rattle.c_encoder_rds.proofs.rds.pescrondilu_encode_rds_set_rds.Reads as rds-set-rds
use Rattle.c_encoder_rds.proofs.rds.pescrondilu_encode_rds_set_phase.Reads as rds-set-phase
use Rattle.c_encoder_rds.proofs.rds.pescrondilu_encode_rds_reset.Reads as rds-reset
use Rattle.c_encoder_rds.proofs.rds.pescrondilu_encode_rds_block.Reads as rds-block

pub nothing_asked :
    (rds-new.Asked ≡ λ κs a. Unit {0})
    × (rds-set-pilot.Asked ≡ λ κs a. Unit {0})
    × (rds-set-rds.Asked ≡ λ κs a. Unit {0})
    × (rds-set-phase.Asked ≡ λ κs a. Unit {0})
    × (rds-reset.Asked ≡ λ κs a. Unit {0})
    × (rds-block.Asked ≡ λ κs a. Unit {0})
nothing_asked = (refl, refl, refl, refl, refl, refl)
