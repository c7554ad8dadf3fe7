-- Demand 1: no public call of this crate asks anything of its caller. `F.Asked` is what a caller of F has to
-- show, by F's `requires`. Assumes nothing.
use mathlib.Core.Path.{◌≡◌, refl}
use Rattle.decoder_record_q15.proofs.pll_q15.guard_fits.Reads as guard-fits
use Rattle.decoder_record_q15.proofs.pll_q15.StereoPllQ15.imax_hz.Reads as pll-q15-imax-hz
use Rattle.decoder_record_q15.proofs.pll_q15.StereoPllQ15.quarter.Reads as pll-q15-quarter
use Rattle.decoder_record_q15.proofs.pll_q15.StereoPllQ15.new.Reads as pll-q15-new
use Rattle.decoder_record_q15.proofs.pll_q15.StereoPllQ15.enable.Reads as pll-q15-enable
use Rattle.decoder_record_q15.proofs.pll_q15.StereoPllQ15.disable.Reads as pll-q15-disable
use Rattle.decoder_record_q15.proofs.pll_q15.StereoPllQ15.reset.Reads as pll-q15-reset
use Rattle.decoder_record_q15.proofs.pll_q15.StereoPllQ15.is_stereo.Reads as pll-q15-is-stereo
use Rattle.decoder_record_q15.proofs.pll_q15.StereoPllQ15.phase.Reads as pll-q15-phase
use Rattle.decoder_record_q15.proofs.pll_q15.StereoPllQ15.is_enabled.Reads as pll-q15-is-enabled
use Rattle.decoder_record_q15.proofs.pll_q15.StereoPllQ15.integrator.Reads as pll-q15-integrator
use Rattle.decoder_record_q15.proofs.pll_q15.StereoPllQ15.integrator_limit.Reads as pll-q15-integrator-limit
use Rattle.decoder_record_q15.proofs.pll_q15.StereoPllQ15.lock_level.Reads as pll-q15-lock-level

pub nothing_asked :
    (guard-fits.Asked ≡ λ κs a. Unit {0})
    × (pll-q15-imax-hz.Asked ≡ λ κs a. Unit {0})
    × (pll-q15-quarter.Asked ≡ λ κs a. Unit {0})
    × (pll-q15-new.Asked ≡ λ κs a. Unit {0})
    × (pll-q15-enable.Asked ≡ λ κs a. Unit {0})
    × (pll-q15-disable.Asked ≡ λ κs a. Unit {0})
    × (pll-q15-reset.Asked ≡ λ κs a. Unit {0})
    × (pll-q15-is-stereo.Asked ≡ λ κs a. Unit {0})
    × (pll-q15-phase.Asked ≡ λ κs a. Unit {0})
    × (pll-q15-is-enabled.Asked ≡ λ κs a. Unit {0})
    × (pll-q15-integrator.Asked ≡ λ κs a. Unit {0})
    × (pll-q15-integrator-limit.Asked ≡ λ κs a. Unit {0})
    × (pll-q15-lock-level.Asked ≡ λ κs a. Unit {0})
nothing_asked = (refl, refl, refl, refl, refl, refl, refl, refl, refl, refl, refl, refl, refl)
