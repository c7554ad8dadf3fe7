-- Q15: the negative of a number above -32768, the larger of two magnitudes, and that it is unsigned. Assumes
-- nothing.
use mathlib.Core.Path.{◌≡◌, refl, ap, ◌∙◌}
use mathlib.Core.Bool.{true, false, cond, false≢true}
use native.Mathlib.Omega.{arith}
use borrow.Author.Tests.{le-leb}
use lib.IntN.{ℤ, pos, negsuc, neg_ℤ, ◌-ℤ◌, +ℤ_idl}
use lib.Signed.{lt_z}
use mir.Syntax.{w16}
use mir.Val.{SFits, to_z, of_z}
use mir.Facts.{to_z-of_z}
use Rattle.rounding.proofs.Lin.{sub_law', lt_no, fit_out, fit_in}
use Rattle.decoder_q15.specs.Q15.{q15}
use Rattle.summary_record.specs.Record.{larger_of}
use Rattle.summary_record.specs.Q15.{unsigned_q15}
use Rattle.summary_record.proofs.Fits.{Unsigned, unsigned_by}

-- ---- the negative
module _ {z Z : ℤ} (e : Z ≡ z) (f : SFits w16 z) (h : lt_z z (negsuc 32766) ≡ false) where
  pub minus_fits : SFits w16 (pos 0 -ℤ Z)
  minus_fits = rw e (fit_in w16 (pos 0 -ℤ z) (omega (arith, sub_law' (pos 0) z, lt_no z (negsuc 32766) h)) (omega (arith, sub_law' (pos 0) z, fit_out f)))

  pub minus_is : to_z w16 (of_z w16 (pos 0 -ℤ Z)) ≡ neg_ℤ z
  minus_is = to_z-of_z minus_fits ∙ +ℤ_idl (neg_ℤ Z) ∙ ap neg_ℤ e

-- ---- the larger of a magnitude and a difference, by the outcome of the second test
module _ (m y : ℤ) {a n : ℤ} (ea : a ≡ cond (lt_z m y) y m) (en : n ≡ neg_ℤ y) where
  pub negative_larger : lt_z a n ≡ true → n ≡ larger_of q15 m y
  negative_larger h = let u : lt_z (cond (lt_z m y) y m) (neg_ℤ y) ≡ true = rw (ea, en) at h in en ∙ rw u

  pub other_larger : lt_z a n ≡ false → a ≡ larger_of q15 m y
  other_larger h = let u : lt_z (cond (lt_z m y) y m) (neg_ℤ y) ≡ false = rw (ea, en) at h in ea ∙ rw u

-- what is above a unsigned magnitude is unsigned
above_unsigned : (m y : ℤ) → unsigned_q15 m ≡ true → lt_z m y ≡ true → unsigned_q15 y ≡ true
above_unsigned (pos m) (pos y) h e = le-leb 0 y (omega arith)
above_unsigned (pos m) (negsuc y) h e = absurd (false≢true e)
above_unsigned (negsuc m) y h e = absurd (false≢true h)

pub unsigned_q15_lem : Unsigned q15 unsigned_q15
unsigned_q15_lem = unsigned_by q15 unsigned_q15 refl refl above_unsigned
