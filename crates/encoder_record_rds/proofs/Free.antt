-- Demand 1: no public call of this crate asks anything of its caller. `F.Asked` is what a caller of F has to
-- show, by F's `requires`. Assumes nothing.
use mathlib.Core.Path.{◌≡◌, refl}
use Rattle.encoder_record_rds.proofs.rds.StereoEncodeRds.new.Reads as rds-new
use Rattle.encoder_record_rds.proofs.rds.StereoEncodeRds.set_rds.Reads as set-rds
use Rattle.encoder_record_rds.proofs.rds.StereoEncodeRds.rds.Reads as rds
use Rattle.encoder_record_rds.proofs.rds.StereoEncodeRds.set_pilot.Reads as rds-set-pilot
use Rattle.encoder_record_rds.proofs.rds.StereoEncodeRds.pilot.Reads as rds-pilot
use Rattle.encoder_record_rds.proofs.rds.StereoEncodeRds.main.Reads as rds-main
use Rattle.encoder_record_rds.proofs.rds.StereoEncodeRds.phase.Reads as rds-phase
use Rattle.encoder_record_rds.proofs.rds.StereoEncodeRds.set_phase.Reads as rds-set-phase
use Rattle.encoder_record_rds.proofs.rds.StereoEncodeRds.increment.Reads as rds-increment
use Rattle.encoder_record_rds.proofs.rds.StereoEncodeRds.encoder.Reads as encoder
use Rattle.encoder_record_rds.proofs.rds.StereoEncodeRds.reset.Reads as rds-reset

pub nothing_asked :
    (rds-new.Asked ≡ λ κs a. Unit {0})
    × (set-rds.Asked ≡ λ κs a. Unit {0})
    × (rds.Asked ≡ λ κs a. Unit {0})
    × (rds-set-pilot.Asked ≡ λ κs a. Unit {0})
    × (rds-pilot.Asked ≡ λ κs a. Unit {0})
    × (rds-main.Asked ≡ λ κs a. Unit {0})
    × (rds-phase.Asked ≡ λ κs a. Unit {0})
    × (rds-set-phase.Asked ≡ λ κs a. Unit {0})
    × (rds-increment.Asked ≡ λ κs a. Unit {0})
    × (encoder.Asked ≡ λ κs a. Unit {0})
    × (rds-reset.Asked ≡ λ κs a. Unit {0})
nothing_asked = (refl, refl, refl, refl, refl, refl, refl, refl, refl, refl, refl)
