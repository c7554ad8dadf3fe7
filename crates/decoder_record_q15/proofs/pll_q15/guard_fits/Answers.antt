-- `pll_q15::guard_fits` meets its contract: gain * 2^30 + imax fits exactly when gain + floor(imax / 2^30) is
-- at least -2^33 and below 2^33. Assumes nothing.
use Prim.Native.Nat.{◌^◌, ◌+◌, ◌*◌, ◌≤◌}
use mathlib.Core.Path.{◌≡◌, refl, sym}
use mathlib.Core.Bool.{Bool, true, false, and-false, and-true}
use native.Mathlib.Omega.{arith}
use lib.Dec.{lit<}
use lib.IntN.{ℤ, pos, negsuc, ◌+ℤ◌, ◌-ℤ◌, ◌*ℤ◌, *ℤ_comm}
use lib.Signed.{lt_z, le_z, shr_z}
use mir.Syntax.{w64}
use mir.Val.{SFits, to_z, of_z}
use mir.Facts.{to_z-of_z}
use Rattle.rounding.proofs.Lin.{up, dn, add_law, sub_law', up_mul, dn_mul, shr_law, fit_in, fit_out, lt_yes, lt_no, le_yes, le_no, le_yes_in, le_no_in, shr_fits}
use Rattle.decoder_record_q15.specs.Fit.{fits64, guard_of}
use Rattle.decoder_record_q15.proofs.pll_q15.guard_fits.Goals.{Start}
use Rattle.decoder_record_q15.proofs.pll_q15.guard_fits.Goals as goal

abbrev TOP : ℤ
TOP = pos 8589934591

abbrev BOTTOM : ℤ
BOTTOM = negsuc 8589934591

abbrev MAX : ℤ
MAX = pos 9223372036854775807

abbrev MIN : ℤ
MIN = negsuc 9223372036854775807

module _ (gain imax : ℤ) where
  abbrev q : ℤ
  q = shr_z imax (2 ^ 30)

  abbrev G : ℤ
  G = pos (2 ^ 30) *ℤ gain +ℤ imax

  guard-is : guard_of gain imax ≡ G
  guard-is = rw (*ℤ_comm gain (pos (2 ^ 30)))

  guard-law : up G + (2 ^ 30 * dn gain + dn imax) ≡ 2 ^ 30 * up gain + up imax + dn G
  guard-law = omega (arith, add_law (pos (2 ^ 30) *ℤ gain) imax, up_mul (2 ^ 30) gain, dn_mul (2 ^ 30) gain)

  high : lt_z (TOP -ℤ q) gain ≡ true → le_z G MAX ≡ false
  high h = le_no_in G MAX (omega (arith, lt_yes (TOP -ℤ q) gain h, sub_law' TOP q, guard-law, shr_law imax (2 ^ 30) (lit< tt)))

  not-high : lt_z (TOP -ℤ q) gain ≡ false → le_z G MAX ≡ true
  not-high h = le_yes_in G MAX (omega (arith, lt_no (TOP -ℤ q) gain h, sub_law' TOP q, guard-law, shr_law imax (2 ^ 30) (lit< tt)))

  low : (t : Bool) → le_z (BOTTOM -ℤ q) gain ≡ t → le_z MIN G ≡ t
  low true h = le_yes_in MIN G (omega (arith, le_yes (BOTTOM -ℤ q) gain h, sub_law' BOTTOM q, guard-law, shr_law imax (2 ^ 30) (lit< tt)))
  low false h = le_no_in MIN G (omega (arith, le_no (BOTTOM -ℤ q) gain h, sub_law' BOTTOM q, guard-law, shr_law imax (2 ^ 30) (lit< tt)))

  -- Y and H are what the machine holds of gain and of the upper part of imax
  module _ (f : SFits w64 imax) {Y H : ℤ} (y : Y ≡ gain) (h : H ≡ q) where
    q-in : (up q ≤ dn q + 2 ^ 33) × (dn q ≤ up q + 2 ^ 33)
    q-in = let k = shr_law imax (2 ^ 30) (lit< tt) in let i = fit_out f in (omega arith, omega arith)

    end_fits : (z : ℤ) → up z ≤ 2 ^ 33 → dn z ≤ 2 ^ 33 → SFits w64 (z -ℤ H)
    end_fits z a b = rw h (let i = q-in in fit_in w64 (z -ℤ q) (omega (arith, sub_law' z q)) (omega (arith, sub_law' z q)))

    top-fits : SFits w64 (TOP -ℤ H)
    top-fits = end_fits TOP (omega arith) (omega arith)

    bottom-fits : SFits w64 (BOTTOM -ℤ H)
    bottom-fits = end_fits BOTTOM (omega arith) (omega arith)

    refused : lt_z (to_z w64 (of_z w64 (TOP -ℤ H))) Y ≡ true → false ≡ fits64 (guard_of gain imax)
    refused p = rw (guard-is, high (rw (to_z-of_z top-fits, h, y) at p)) (sym (and-false (le_z MIN G)))

    judged : lt_z (to_z w64 (of_z w64 (TOP -ℤ H))) Y ≡ false → le_z (to_z w64 (of_z w64 (BOTTOM -ℤ H))) Y ≡ fits64 (guard_of gain imax)
    judged p = rw (to_z-of_z bottom-fits, h, y, guard-is, not-high (rw (to_z-of_z top-fits, h, y) at p), low (le_z (BOTTOM -ℤ q) gain) refl) (sym (and-true (le_z (BOTTOM -ℤ q) gain)))

-- the upper part of imax, read back
part-is : (c : Start) → to_z w64 (of_z w64 (shr_z (to_z w64 (of_z w64 c.args.imax)) (2 ^ 30))) ≡ shr_z c.args.imax (2 ^ 30)
part-is c = rw (to_z-of_z c.ranges.imax) (to_z-of_z (shr_fits (2 ^ 30) c.ranges.imax))

pub overflow_sub-high : goal.overflow_sub-high
overflow_sub-high c = top-fits c.args.gain c.args.imax c.ranges.imax (to_z-of_z c.ranges.gain) (part-is c)

pub returns-then-gain-high : goal.returns-then-gain-high
returns-then-gain-high c = let s = c.before in refused s.args.gain s.args.imax s.ranges.imax (to_z-of_z s.ranges.gain) (part-is s) c.if-gain-high.true

pub overflow_sub-result : goal.overflow_sub-result
overflow_sub-result c = let s = c.before in bottom-fits s.args.gain s.args.imax s.ranges.imax (to_z-of_z s.ranges.gain) (part-is s)

pub returns : goal.returns
returns c = let s = c.before in judged s.args.gain s.args.imax s.ranges.imax (to_z-of_z s.ranges.gain) (part-is s) c.if-gain-high.false
