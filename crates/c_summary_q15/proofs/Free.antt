-- The calls with a summary, and what turns its record from C and back, ask nothing of their caller.
-- `F.Asked` is what a caller of F has to show, by F's `requires`. Assumes nothing.
use mathlib.Core.Path.{◌≡◌, refl}
use Rattle.c_summary_q15.proofs.in_q15.SummaryQ15FromSummaryRecordQ15.from.Reads as taken-q15
use Rattle.c_summary_q15.proofs.in_q15.SummaryRecordQ15FromSummaryQ15.from.Reads as given-q15
use Rattle.c_summary_q15.proofs.in_q15.pescrondilu_q15_summary_new.Reads as new-q15
use Rattle.c_summary_q15.proofs.in_q15.pescrondilu_q15_summary_block.Reads as block-q15

pub nothing_asked :
    (taken-q15.Asked ≡ λ κs a. Unit {0})
    × (given-q15.Asked ≡ λ κs a. Unit {0})
    × (new-q15.Asked ≡ λ κs a. Unit {0})
    × (block-q15.Asked ≡ λ κs a. Unit {0})
nothing_asked = (refl, refl, refl, refl)
