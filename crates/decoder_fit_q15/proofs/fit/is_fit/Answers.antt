use mathlib.Core.Path.{◌≡◌, refl, ap, ap₂, ◌∙◌}
use mathlib.Core.Bool.{Bool, true, false, ◌&&◌, and_assoc}
use native.Mathlib.Omega.{arith}
use Prim.Native.Nat.{◌^◌}
use lib.IntN.{ℤ, pos, neg_ℤ}
use lib.Signed.{lt_z, le_z}
use mir.Facts.{to_z-of_z}
use Rattle.rounding.proofs.Lin.{lt_yes, lt_no, le_yes_in, le_no_in}
use Rattle.decoder_record.specs.State.{Pll}
use Rattle.decoder_record_q15.specs.Fit.{within_z, fits64, guard_of, level_low, level_high, fit_q15}
use Rattle.decoder_record_q15.specs.Records.{pll_of_q15}
use Rattle.decoder_record_q15.proofs.Ranges.{not_below, minus_fits, minus_held}
use Rattle.decoder_record_q15.proofs.Held.{Held, held}
use Rattle.decoder_fit_q15.proofs.fit.is_fit.Goals as goal

-- the definition by the outcomes of its tests
module _ (d : Pll ℤ) {I : ℤ} (i : I ≡ d.gains.imax) where
  negative : lt_z I (pos 0) ≡ true → false ≡ fit_q15 d
  unfolding fit_q15
  negative p = rw (le_no_in (pos 0) d.gains.imax (omega (arith, lt_yes d.gains.imax (pos 0) (rw i at p)))) (go (le_z (pos 0) d.gains.kp) (le_z (pos 0) d.gains.ki))
    where
      go : (a b : Bool) → false ≡ a && (b && false)
      go true true = refl
      go true false = refl
      go false b = refl

  positive : lt_z I (pos 0) ≡ false → le_z (pos 0) d.gains.imax ≡ true
  positive p = le_yes_in (pos 0) d.gains.imax (omega (arith, lt_no d.gains.imax (pos 0) (rw i at p)))

  by_tests : {a b c g h x l : Bool} → le_z (pos 0) d.gains.imax ≡ true → a ≡ le_z (pos 0) d.gains.kp → b ≡ le_z (pos 0) d.gains.ki → c ≡ within_z (pos 0) (pos (2 ^ 31)) d.gains.beta
      → g ≡ fits64 (guard_of d.gains.kp d.gains.imax) → h ≡ fits64 (guard_of d.gains.ki d.gains.imax) → x ≡ within_z (neg_ℤ d.gains.imax) d.gains.imax d.moving.integ → l ≡ within_z level_low level_high d.moving.level
      → a && b && (g && h) && x && (c && l) ≡ fit_q15 d
  unfolding fit_q15
  by_tests n a b c g h x l = rw (n, ← a, ← b, ← c, ← g, ← h, ← x, ← l) (simp and_assoc)

pub returns-then-imax-lt0 : goal.returns-then-imax-lt0
returns-then-imax-lt0 c = negative (pll_of_q15 c.args.d) (to_z-of_z (held c.args.d c.struct_told-1.given).imax) c.if-imax-lt0.true

pub overflow_sub-imax : goal.overflow_sub-imax
overflow_sub-imax c =
    let d = pll_of_q15 c.args.d in
    let k = held c.args.d c.struct_told-1.given in
    minus_fits (to_z-of_z k.imax) k.imax (not_below d.gains.imax (positive d (to_z-of_z k.imax) c.if-imax-lt0.false))

pub returns : goal.returns
returns c =
    let d = pll_of_q15 c.args.d in
    let h = held c.args.d c.struct_told-1.given in
    let n = positive d (to_z-of_z h.imax) c.if-imax-lt0.false in
    by_tests d (to_z-of_z h.imax) n
    (ap (le_z (pos 0)) (to_z-of_z h.kp))
    (ap (le_z (pos 0)) (to_z-of_z h.ki))
    (c.in_range.ensures ∙ rw (to_z-of_z h.beta))
    (c.guard_fits.ensures ∙ ap₂ (λ (k m : ℤ). fits64 (guard_of k m)) (to_z-of_z h.kp) (to_z-of_z h.imax))
    (c.guard_fits-2.ensures ∙ ap₂ (λ (k m : ℤ). fits64 (guard_of k m)) (to_z-of_z h.ki) (to_z-of_z h.imax))
    (c.in_range-3.ensures ∙ rw (minus_held (to_z-of_z h.imax) h.imax (not_below d.gains.imax n), to_z-of_z h.imax, to_z-of_z h.integ))
    (c.in_range-2.ensures ∙ rw (to_z-of_z h.level))
