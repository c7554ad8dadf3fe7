-- The calls with a summary, and what turns its record from C and back, ask nothing of their caller.
-- `F.Asked` is what a caller of F has to show, by F's `requires`. Assumes nothing.
use mathlib.Core.Path.{◌≡◌, refl}
use Rattle.c_summary.proofs.in_f32.SummaryF32FromSummaryRecordF32.from.Reads as taken-f32
use Rattle.c_summary.proofs.in_f32.SummaryRecordF32FromSummaryF32.from.Reads as given-f32
use Rattle.c_summary.proofs.in_f32.pescrondilu_f32_summary_new.Reads as new-f32
use Rattle.c_summary.proofs.in_f32.pescrondilu_f32_summary_block.Reads as block-f32

pub nothing_asked :
    (taken-f32.Asked ≡ λ κs a. Unit {0})
    × (given-f32.Asked ≡ λ κs a. Unit {0})
    × (new-f32.Asked ≡ λ κs a. Unit {0})
    × (block-f32.Asked ≡ λ κs a. Unit {0})
nothing_asked = (refl, refl, refl, refl)
