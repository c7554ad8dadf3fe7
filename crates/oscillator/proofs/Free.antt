-- Demand 1: no public call of this crate asks anything of its caller. `F.Asked` is what a caller of F has to
-- show, by F's `requires`. Assumes nothing.
use Rattle.std.proofs.Common.{◌≡◌, refl}
use Rattle.oscillator.proofs.nco.increment_of.Reads as increment-of
use Rattle.oscillator.proofs.nco.increment_for.Reads as increment-for
use Rattle.oscillator.proofs.nco.Nco.new.Reads as new
use Rattle.oscillator.proofs.nco.Nco.from_increment.Reads as from-increment
use Rattle.oscillator.proofs.nco.Nco.set_frequency.Reads as set-frequency
use Rattle.oscillator.proofs.nco.Nco.phase.Reads as phase
use Rattle.oscillator.proofs.nco.Nco.set_phase.Reads as set-phase
use Rattle.oscillator.proofs.nco.Nco.increment.Reads as increment
use Rattle.oscillator.proofs.nco.Nco.reset.Reads as reset
use Rattle.oscillator.proofs.nco.Nco.advance.Reads as advance

pub nothing_asked :
    (increment-of.Asked ≡ λ κs a. Unit {0})
    × (increment-for.Asked ≡ λ κs a. Unit {0})
    × (new.Asked ≡ λ κs a. Unit {0})
    × (from-increment.Asked ≡ λ κs a. Unit {0})
    × (set-frequency.Asked ≡ λ κs a. Unit {0})
    × (phase.Asked ≡ λ κs a. Unit {0})
    × (set-phase.Asked ≡ λ κs a. Unit {0})
    × (increment.Asked ≡ λ κs a. Unit {0})
    × (reset.Asked ≡ λ κs a. Unit {0})
    × (advance.Asked ≡ λ κs a. Unit {0})
nothing_asked = (refl, refl, refl, refl, refl, refl, refl, refl, refl, refl)
