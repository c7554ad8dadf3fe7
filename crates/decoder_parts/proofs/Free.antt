-- Demand 1: no public call of this crate asks anything of its caller. `F.Asked` is what a caller of F has to
-- show, by F's `requires`. Assumes nothing.
use Rattle.std.proofs.Common.{◌≡◌, refl}
use Rattle.decoder_parts.proofs.advance.phase_after.Reads as phase-after
use Rattle.decoder_parts.proofs.in_f32.level_next.Reads as level-next
use Rattle.decoder_parts.proofs.in_f32.decided.Reads as in-f32-decided
use Rattle.decoder_parts.proofs.in_f32.accumulated.Reads as accumulated
use Rattle.decoder_parts.proofs.in_f32.within.Reads as within
use Rattle.decoder_parts.proofs.in_f32.integrated.Reads as integrated
use Rattle.decoder_parts.proofs.in_f32.demodulated.Reads as demodulated
use Rattle.decoder_parts.proofs.in_f32.error_of.Reads as error-of
use Rattle.decoder_parts.proofs.in_f32.level_of.Reads as level-of
use Rattle.decoder_parts.proofs.in_f32.stereo_of.Reads as stereo-of

pub nothing_asked :
    (phase-after.Asked ≡ λ κs a. Unit {0})
    × (level-next.Asked ≡ λ κs a. Unit {0})
    × (in-f32-decided.Asked ≡ λ κs a. Unit {0})
    × (accumulated.Asked ≡ λ κs a. Unit {0})
    × (within.Asked ≡ λ κs a. Unit {0})
    × (integrated.Asked ≡ λ κs a. Unit {0})
    × (demodulated.Asked ≡ λ κs a. Unit {0})
    × (error-of.Asked ≡ λ κs a. Unit {0})
    × (level-of.Asked ≡ λ κs a. Unit {0})
    × (stereo-of.Asked ≡ λ κs a. Unit {0})
nothing_asked = (refl, refl, refl, refl, refl, refl, refl, refl, refl, refl)
