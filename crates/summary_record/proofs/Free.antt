-- Demand 1: no public call of this crate asks anything of its caller. `F.Asked` is what a caller of F has to
-- show, by F's `requires`. Assumes nothing.
use mathlib.Core.Path.{◌≡◌, refl}
use Rattle.summary_record.proofs.in_f32.SummaryF32.new.Reads as new-f32
use Rattle.summary_record.proofs.in_f32.is_fit.Reads as fit-f32
use Rattle.summary_record.proofs.in_f32.larger.Reads as larger-f32
use Rattle.summary_record.proofs.in_q15.SummaryQ15.new.Reads as new-q15
use Rattle.summary_record.proofs.in_q15.is_fit.Reads as fit-q15
use Rattle.summary_record.proofs.in_q15.larger.Reads as larger-q15

pub nothing_asked :
    (new-f32.Asked ≡ λ κs a. Unit {0})
    × (fit-f32.Asked ≡ λ κs a. Unit {0})
    × (larger-f32.Asked ≡ λ κs a. Unit {0})
    × (new-q15.Asked ≡ λ κs a. Unit {0})
    × (fit-q15.Asked ≡ λ κs a. Unit {0})
    × (larger-q15.Asked ≡ λ κs a. Unit {0})
nothing_asked = (refl, refl, refl, refl, refl, refl)
