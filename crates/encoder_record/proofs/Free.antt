-- Demand 1: no public call of this crate asks anything of its caller. `F.Asked` is what a caller of F has to
-- show, by F's `requires`. Assumes nothing.
use mathlib.Core.Path.{◌≡◌, refl}
use Rattle.encoder_record.proofs.encode.good_level.Reads as good-level
use Rattle.encoder_record.proofs.encode.StereoEncode.new.Reads as encode-new
use Rattle.encoder_record.proofs.encode.StereoEncode.set_pilot.Reads as encode-set-pilot
use Rattle.encoder_record.proofs.encode.StereoEncode.pilot.Reads as encode-pilot
use Rattle.encoder_record.proofs.encode.StereoEncode.main.Reads as encode-main
use Rattle.encoder_record.proofs.encode.StereoEncode.phase.Reads as encode-phase
use Rattle.encoder_record.proofs.encode.StereoEncode.set_phase.Reads as encode-set-phase
use Rattle.encoder_record.proofs.encode.StereoEncode.increment.Reads as encode-increment
use Rattle.encoder_record.proofs.encode.StereoEncode.reset.Reads as encode-reset

pub nothing_asked :
    (good-level.Asked ≡ λ κs a. Unit {0})
    × (encode-new.Asked ≡ λ κs a. Unit {0})
    × (encode-set-pilot.Asked ≡ λ κs a. Unit {0})
    × (encode-pilot.Asked ≡ λ κs a. Unit {0})
    × (encode-main.Asked ≡ λ κs a. Unit {0})
    × (encode-phase.Asked ≡ λ κs a. Unit {0})
    × (encode-set-phase.Asked ≡ λ κs a. Unit {0})
    × (encode-increment.Asked ≡ λ κs a. Unit {0})
    × (encode-reset.Asked ≡ λ κs a. Unit {0})
nothing_asked = (refl, refl, refl, refl, refl, refl, refl, refl, refl)
