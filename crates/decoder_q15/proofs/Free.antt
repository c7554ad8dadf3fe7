-- Demand 1: no public call of this crate asks anything of its caller. `F.Asked` is what a caller of F has to
-- show, by F's `requires`. Assumes nothing.
use mathlib.Core.Path.{◌≡◌, refl}
use Rattle.decoder_q15.proofs.fast.block.Reads as fast_block
use Rattle.decoder_q15.proofs.fast.step_checked.Reads as step-checked
use Rattle.decoder_q15.proofs.parts.block_answer.Reads as block-answer
use Rattle.decoder_q15.proofs.plain.block.Reads as plain-block

pub nothing_asked :
    (fast_block.Asked ≡ λ κs a. Unit {0})
    × (step-checked.Asked ≡ λ κs a. Unit {0})
    × (block-answer.Asked ≡ λ κs a. Unit {0})
    × (plain-block.Asked ≡ λ κs a. Unit {0})
nothing_asked = (refl, refl, refl, refl)
