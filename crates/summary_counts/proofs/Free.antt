-- Demand 1: no public call of this crate asks anything of its caller. `F.Asked` is what a caller of F has to
-- show, by F's `requires`. Assumes nothing.
use Rattle.std.proofs.Common.{◌≡◌, refl}
use Rattle.summary_counts.proofs.fresh.Reads as fresh
use Rattle.summary_counts.proofs.held.Reads as held
use Rattle.summary_counts.proofs.is_fit.Reads as is-fit
use Rattle.summary_counts.proofs.counted.Reads as counted
use Rattle.summary_counts.proofs.is_full.Reads as is-full
use Rattle.summary_counts.proofs.empty.Reads as empty
use Rattle.summary_counts.proofs.ending.Reads as ending
use Rattle.summary_counts.proofs.summary_answer.Reads as summary-answer

pub nothing_asked :
    (fresh.Asked ≡ λ κs a. Unit {0})
    × (held.Asked ≡ λ κs a. Unit {0})
    × (is-fit.Asked ≡ λ κs a. Unit {0})
    × (counted.Asked ≡ λ κs a. Unit {0})
    × (is-full.Asked ≡ λ κs a. Unit {0})
    × (empty.Asked ≡ λ κs a. Unit {0})
    × (ending.Asked ≡ λ κs a. Unit {0})
    × (summary-answer.Asked ≡ λ κs a. Unit {0})
nothing_asked = (refl, refl, refl, refl, refl, refl, refl, refl)
