-- The calls of number helpers, lookups and corrections ask nothing of their caller. `F.Asked` is what a caller
-- of F has to show, by F's `requires`. Assumes nothing.
use mathlib.Core.Path.{◌≡◌, refl}
use Rattle.c_numbers.proofs.pescrondilu_sat16.Reads as sat16
use Rattle.c_numbers.proofs.pescrondilu_round_shift.Reads as round-shift
use Rattle.c_numbers.proofs.pescrondilu_q15_product.Reads as q15-product
use Rattle.c_numbers.proofs.pescrondilu_q15_mul.Reads as q15-mul
use Rattle.c_numbers.proofs.pescrondilu_q15_add_sat.Reads as q15-add-sat
use Rattle.c_numbers.proofs.pescrondilu_q15_sub_sat.Reads as q15-sub-sat
use Rattle.c_numbers.proofs.pescrondilu_low32.Reads as low32
use Rattle.c_numbers.proofs.pescrondilu_phase_twice.Reads as phase-twice
use Rattle.c_numbers.proofs.pescrondilu_phase_thrice.Reads as phase-thrice
use Rattle.c_numbers.proofs.pescrondilu_floor_f64.Reads as floor-f64
use Rattle.c_numbers.proofs.pescrondilu_half_even_f64.Reads as half-even-f64
use Rattle.c_numbers.proofs.pescrondilu_f64_to_f32.Reads as f64-to-f32
use Rattle.c_numbers.proofs.pescrondilu_i64_to_f64.Reads as i64-to-f64
use Rattle.c_numbers.proofs.pescrondilu_f64_to_i64.Reads as f64-to-i64
use Rattle.c_numbers.proofs.pescrondilu_f32_to_f64.Reads as f32-to-f64
use Rattle.c_numbers.proofs.pescrondilu_is_finite_f32.Reads as is-finite-f32
use Rattle.c_numbers.proofs.pescrondilu_is_finite_f64.Reads as is-finite-f64
use Rattle.c_numbers.proofs.pescrondilu_flush_denormal.Reads as flush-denormal
use Rattle.c_numbers.proofs.pescrondilu_floor_scaled.Reads as floor-scaled
use Rattle.c_numbers.proofs.pescrondilu_q15_from_f64.Reads as q15-from-f64
use Rattle.c_numbers.proofs.pescrondilu_q14_from_f64.Reads as q14-from-f64
use Rattle.c_numbers.proofs.pescrondilu_cos_f32.Reads as cos-f32
use Rattle.c_numbers.proofs.pescrondilu_interp_f32_pair.Reads as interp-f32-pair
use Rattle.c_numbers.proofs.pescrondilu_cos_q15.Reads as cos-q15
use Rattle.c_numbers.proofs.pescrondilu_interp_q15.Reads as interp-q15
use Rattle.c_numbers.proofs.pescrondilu_correction_plain.Reads as correction-plain
use Rattle.c_numbers.proofs.pescrondilu_correction_fast.Reads as correction-fast
use Rattle.c_numbers.proofs.pescrondilu_quick_serves.Reads as quick-serves

pub number-free :
    (sat16.Asked ≡ λ κs a. Unit {0})
    × (round-shift.Asked ≡ λ κs a. Unit {0})
    × (q15-product.Asked ≡ λ κs a. Unit {0})
    × (q15-mul.Asked ≡ λ κs a. Unit {0})
    × (q15-add-sat.Asked ≡ λ κs a. Unit {0})
    × (q15-sub-sat.Asked ≡ λ κs a. Unit {0})
    × (low32.Asked ≡ λ κs a. Unit {0})
    × (phase-twice.Asked ≡ λ κs a. Unit {0})
    × (phase-thrice.Asked ≡ λ κs a. Unit {0})
    × (floor-f64.Asked ≡ λ κs a. Unit {0})
    × (half-even-f64.Asked ≡ λ κs a. Unit {0})
    × (f64-to-f32.Asked ≡ λ κs a. Unit {0})
    × (i64-to-f64.Asked ≡ λ κs a. Unit {0})
    × (f64-to-i64.Asked ≡ λ κs a. Unit {0})
    × (f32-to-f64.Asked ≡ λ κs a. Unit {0})
    × (is-finite-f32.Asked ≡ λ κs a. Unit {0})
    × (is-finite-f64.Asked ≡ λ κs a. Unit {0})
    × (flush-denormal.Asked ≡ λ κs a. Unit {0})
    × (floor-scaled.Asked ≡ λ κs a. Unit {0})
    × (q15-from-f64.Asked ≡ λ κs a. Unit {0})
    × (q14-from-f64.Asked ≡ λ κs a. Unit {0})
number-free = (refl, refl, refl, refl, refl, refl, refl, refl, refl, refl, refl, refl, refl, refl, refl, refl, refl, refl, refl, refl, refl)

pub phase-free :
    (cos-f32.Asked ≡ λ κs a. Unit {0})
    × (interp-f32-pair.Asked ≡ λ κs a. Unit {0})
    × (cos-q15.Asked ≡ λ κs a. Unit {0})
    × (interp-q15.Asked ≡ λ κs a. Unit {0})
    × (correction-plain.Asked ≡ λ κs a. Unit {0})
    × (correction-fast.Asked ≡ λ κs a. Unit {0})
    × (quick-serves.Asked ≡ λ κs a. Unit {0})
phase-free = (refl, refl, refl, refl, refl, refl, refl)
