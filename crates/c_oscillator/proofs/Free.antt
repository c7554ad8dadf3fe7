-- The calls of oscillator, encoders and verdict ask nothing of their caller. `F.Asked` is what a caller of F
-- has to show, by F's `requires`. Assumes nothing.
use mathlib.Core.Path.{◌≡◌, refl}
use Rattle.c_oscillator.proofs.nco.pescrondilu_nco_increment_for.Reads as nco-increment-for
use Rattle.c_oscillator.proofs.nco.pescrondilu_nco_new.Reads as nco-new
use Rattle.c_oscillator.proofs.nco.pescrondilu_nco_from_increment.Reads as nco-from-increment
use Rattle.c_oscillator.proofs.nco.pescrondilu_nco_set_frequency.Reads as nco-set-frequency
use Rattle.c_oscillator.proofs.nco.pescrondilu_nco_set_phase.Reads as nco-set-phase
use Rattle.c_oscillator.proofs.nco.pescrondilu_nco_advance.Reads as nco-advance
use Rattle.c_oscillator.proofs.nco.pescrondilu_nco_reset.Reads as nco-reset

pub nothing_asked :
    (nco-increment-for.Asked ≡ λ κs a. Unit {0})
    × (nco-new.Asked ≡ λ κs a. Unit {0})
    × (nco-from-increment.Asked ≡ λ κs a. Unit {0})
    × (nco-set-frequency.Asked ≡ λ κs a. Unit {0})
    × (nco-set-phase.Asked ≡ λ κs a. Unit {0})
    × (nco-advance.Asked ≡ λ κs a. Unit {0})
    × (nco-reset.Asked ≡ λ κs a. Unit {0})
nothing_asked = (refl, refl, refl, refl, refl, refl, refl)
