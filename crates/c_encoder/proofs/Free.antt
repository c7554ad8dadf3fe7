-- The calls of oscillator, encoders and verdict ask nothing of their caller. `F.Asked` is what a caller of F
-- has to show, by F's `requires`. Assumes nothing.
use mathlib.Core.Path.{◌≡◌, refl}
use Rattle.c_encoder.proofs.encode.pescrondilu_encode_new.Reads as encode-new
use Rattle.c_encoder.proofs.encode.pescrondilu_encode_set_pilot.Reads as encode-set-pilot
use Rattle.c_encoder.proofs.encode.pescrondilu_encode_set_phase.Reads as encode-set-phase
use Rattle.c_encoder.proofs.encode.pescrondilu_encode_reset.Reads as encode-reset
use Rattle.c_encoder.proofs.encode.pescrondilu_encode_block.Reads as encode-block
use Rattle.c_encoder.proofs.pescrondilu_on_air.Reads as on-air

pub nothing_asked :
    (encode-new.Asked ≡ λ κs a. Unit {0})
    × (encode-set-pilot.Asked ≡ λ κs a. Unit {0})
    × (encode-set-phase.Asked ≡ λ κs a. Unit {0})
    × (encode-reset.Asked ≡ λ κs a. Unit {0})
    × (encode-block.Asked ≡ λ κs a. Unit {0})
    × (on-air.Asked ≡ λ κs a. Unit {0})
nothing_asked = (refl, refl, refl, refl, refl, refl)
