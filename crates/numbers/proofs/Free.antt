-- Demand 1: no public call of this crate asks anything of its caller. `F.Asked` is what a caller of F has to
-- show, by F's `requires`. Assumes nothing.
use Rattle.std.proofs.Common.{◌≡◌, refl}
use Rattle.numbers.proofs.fixed.sat16.Reads as sat16
use Rattle.numbers.proofs.fixed.round_shift.Reads as round-shift
use Rattle.numbers.proofs.fixed.q15_product.Reads as q15-product
use Rattle.numbers.proofs.fixed.q15_mul.Reads as q15-mul
use Rattle.numbers.proofs.fixed.q15_add_sat.Reads as q15-add-sat
use Rattle.numbers.proofs.fixed.q15_sub_sat.Reads as q15-sub-sat
use Rattle.numbers.proofs.fixed.low32.Reads as low32
use Rattle.numbers.proofs.fixed.phase_twice.Reads as phase-twice
use Rattle.numbers.proofs.fixed.phase_thrice.Reads as phase-thrice
use Rattle.numbers.proofs.float.flush_denormal.Reads as flush-denormal

pub nothing_asked :
    (sat16.Asked ≡ λ κs a. Unit {0})
    × (round-shift.Asked ≡ λ κs a. Unit {0})
    × (q15-product.Asked ≡ λ κs a. Unit {0})
    × (q15-mul.Asked ≡ λ κs a. Unit {0})
    × (q15-add-sat.Asked ≡ λ κs a. Unit {0})
    × (q15-sub-sat.Asked ≡ λ κs a. Unit {0})
    × (low32.Asked ≡ λ κs a. Unit {0})
    × (phase-twice.Asked ≡ λ κs a. Unit {0})
    × (phase-thrice.Asked ≡ λ κs a. Unit {0})
    × (flush-denormal.Asked ≡ λ κs a. Unit {0})
nothing_asked = (refl, refl, refl, refl, refl, refl, refl, refl, refl, refl)
