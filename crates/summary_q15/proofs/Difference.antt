-- A Q15 difference is never -32768, so that its magnitude is a sample. Assumes nothing.
use Prim.Native.Nat.{suc, ◌+◌, ◌*◌, ◌≤◌}
use mathlib.Core.Path.{◌≡◌, refl}
use mathlib.Core.Bool.{Bool, true, false, cond, ◌&&◌}
use mathlib.Core.List.{List}
use native.Mathlib.Nat.{mul-le-mul}
use native.Mathlib.Omega.{arith}
use lib.IntN.{ℤ, pos, negsuc, ◌*ℤ◌, *ℤ_comm}
use lib.Signed.{lt_z}
use mir.Syntax.{w16}
use mir.Val.{SFits}
use Rattle.rounding.proofs.Lin.{up, dn, lt_no_in, fit_out, dn_mul}
use Rattle.numbers.specs.Integers.{sat16_of, round_shift_of}
use Rattle.numbers.proofs.Integers.{sat_mono, round_mono}
use Rattle.lookup.specs.Lookup.{cos_q15, sine_at}
use Rattle.lookup.proofs.Between.{cos_q15_fits}
use Rattle.decoder_record.specs.State.{Pll}
use Rattle.decoder.specs.Machine.{decide, step_of}
use Rattle.decoder_q15.specs.Q15.{q15, level_q15}

-- ---- a product of two i16 is at least -32768 times 32767
abbrev least : ℤ
least = negsuc 1073709055

product_above : (x s : ℤ) → SFits w16 x → SFits w16 s → up least + dn (x *ℤ s) ≤ up (x *ℤ s) + dn least
product_above (pos a) s f g =
    let la : a ≤ 32767 = omega (arith, fit_out f) in
    let l : a * dn s ≤ 32767 * 32768 = mul-le-mul la (small s g) in
    omega (arith, l, dn_mul a s)
  where
    small : (s : ℤ) → SFits w16 s → dn s ≤ 32768
    small (pos b) g = omega arith
    small (negsuc b) g = omega (arith, fit_out g)
product_above (negsuc a) (pos b) f g =
    let lb : b ≤ 32767 = omega (arith, fit_out g) in
    let la : suc a ≤ 32768 = omega (arith, fit_out f) in
    let l : b * suc a ≤ 32767 * 32768 = mul-le-mul lb la in
    rw (*ℤ_comm (negsuc a) (pos b)) (omega (arith, l, dn_mul b (negsuc a)))
product_above (negsuc a) (negsuc b) f g = omega arith

-- ---- so a difference is above -32768
at_least : sat16_of (round_shift_of least 15) ≡ negsuc 32766
unfolding sat16_of round_shift_of
at_least = refl

pub difference_above : (t : List ℤ) (d : Pll ℤ) (x p : ℤ) → SFits w16 x → lt_z (step_of q15 t d x p).difference (negsuc 32766) ≡ false
unfolding step_of
difference_above t d x p f =
    go (decide q15 (level_q15 d.gains.beta d.moving.level (p *ℤ cos_q15 t (sine_at 1 d.moving.phase))) d.gains.on d.gains.off d.moving.stereo && d.enabled)
  where
    z : ℤ
    z = x *ℤ cos_q15 t (sine_at 2 d.moving.phase)

    go : (b : Bool) → lt_z (cond b (sat16_of (round_shift_of z 15)) (pos 0)) (negsuc 32766) ≡ false
    go true =
        let m = sat_mono (round_shift_of least 15) (round_shift_of z 15) (round_mono least z 15 (product_above x (cos_q15 t (sine_at 2 d.moving.phase)) f (cos_q15_fits t (sine_at 2 d.moving.phase)))) in
        lt_no_in (sat16_of (round_shift_of z 15)) (negsuc 32766) (rw at_least at m)
    go false = refl
