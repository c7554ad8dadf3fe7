-- Demand 1: no public call of this crate asks anything of its caller. `F.Asked` is what a caller of F has to
-- show, by F's `requires`. Assumes nothing.
use mathlib.Core.Path.{◌≡◌, refl}
use Rattle.decoder_record.proofs.pll_f32.StereoPllF32.imax_hz.Reads as pll-f32-imax-hz
use Rattle.decoder_record.proofs.pll_f32.StereoPllF32.quarter.Reads as pll-f32-quarter
use Rattle.decoder_record.proofs.pll_f32.StereoPllF32.new.Reads as pll-f32-new
use Rattle.decoder_record.proofs.pll_f32.StereoPllF32.enable.Reads as pll-f32-enable
use Rattle.decoder_record.proofs.pll_f32.StereoPllF32.disable.Reads as pll-f32-disable
use Rattle.decoder_record.proofs.pll_f32.StereoPllF32.reset.Reads as pll-f32-reset
use Rattle.decoder_record.proofs.pll_f32.StereoPllF32.is_stereo.Reads as pll-f32-is-stereo
use Rattle.decoder_record.proofs.pll_f32.StereoPllF32.phase.Reads as pll-f32-phase
use Rattle.decoder_record.proofs.pll_f32.StereoPllF32.is_enabled.Reads as pll-f32-is-enabled
use Rattle.decoder_record.proofs.pll_f32.StereoPllF32.integrator.Reads as pll-f32-integrator
use Rattle.decoder_record.proofs.pll_f32.StereoPllF32.integrator_limit.Reads as pll-f32-integrator-limit
use Rattle.decoder_record.proofs.pll_f32.StereoPllF32.lock_level.Reads as pll-f32-lock-level

pub nothing_asked :
    (pll-f32-imax-hz.Asked ≡ λ κs a. Unit {0})
    × (pll-f32-quarter.Asked ≡ λ κs a. Unit {0})
    × (pll-f32-new.Asked ≡ λ κs a. Unit {0})
    × (pll-f32-enable.Asked ≡ λ κs a. Unit {0})
    × (pll-f32-disable.Asked ≡ λ κs a. Unit {0})
    × (pll-f32-reset.Asked ≡ λ κs a. Unit {0})
    × (pll-f32-is-stereo.Asked ≡ λ κs a. Unit {0})
    × (pll-f32-phase.Asked ≡ λ κs a. Unit {0})
    × (pll-f32-is-enabled.Asked ≡ λ κs a. Unit {0})
    × (pll-f32-integrator.Asked ≡ λ κs a. Unit {0})
    × (pll-f32-integrator-limit.Asked ≡ λ κs a. Unit {0})
    × (pll-f32-lock-level.Asked ≡ λ κs a. Unit {0})
nothing_asked = (refl, refl, refl, refl, refl, refl, refl, refl, refl, refl, refl, refl)
