-- Tests of a range on whole numbers, as facts that `omega` reads, and back. Assumes nothing.
use Prim.Native.Nat.{ℕ, ◌+◌, ◌*◌, ◌^◌, ◌≤◌, ◌<◌}
use mathlib.Core.Path.{◌≡◌, ap, ◌∙◌}
use mathlib.Core.Bool.{true, false≢true}
use native.Mathlib.Omega.{arith}
use lib.Dec.{T}
use lib.IntN.{ℤ, pos, negsuc, neg_ℤ, nat_abs, ◌-ℤ◌, +ℤ_idl}
use lib.Signed.{le_z, non_neg}
use mir.Syntax.{w64}
use mir.Val.{SFits, to_z, of_z}
use mir.Facts.{to_z-of_z}
use Rattle.rounding.proofs.Lin.{up, dn, sub_law', up_neg, dn_neg, abs_in, fit_in, le_yes, le_yes_in}
use Rattle.answers.proofs.Tests.{and_out}
use Rattle.decoder_record_q15.specs.Fit.{within_z, fits64, guard_of}

module _ (lo hi z : ℤ) where
  pub within_out : within_z lo hi z ≡ true → (up lo + dn z ≤ up z + dn lo) × (up z + dn hi ≤ up hi + dn z)
  within_out h = let x = and_out (le_z lo z) (le_z z hi) h in (le_yes lo z x.0, le_yes z hi x.1)

  pub within_in : up lo + dn z ≤ up z + dn lo → up z + dn hi ≤ up hi + dn z → within_z lo hi z ≡ true
  within_in h k = rw (le_yes_in lo z h, le_yes_in z hi k)

pub not_below : (z : ℤ) → le_z (pos 0) z ≡ true → T (non_neg z)
not_below (pos n) h = tt
not_below (negsuc n) h = absurd (false≢true h)

-- ---- a limit m that is not below 0
module _ (m : ℕ) where
  abbrev M : ℤ
  M = pos m

  -- an offset within it, after a gain whose guard fits
  pub guarded_sum : (gain offset : ℤ) → le_z (pos 0) gain ≡ true → fits64 (guard_of gain M) ≡ true → within_z (neg_ℤ M) M offset ≡ true → nat_abs gain * 2 ^ 30 + nat_abs offset < 2 ^ 63
  guarded_sum (pos g) offset p h k =
      let f = within_out (negsuc 9223372036854775807) (pos 9223372036854775807) (pos (g * 2 ^ 30 + m)) h in
      let w = within_out (neg_ℤ M) M offset k in
      let u = up_neg M in
      let d = dn_neg M in
      omega (arith, abs_in m offset (omega arith) (omega arith))
  guarded_sum (negsuc g) offset p h k = absurd (false≢true p)

-- ---- -z for a z that is not below 0. Z is z as the machine reads it back from its bits
module _ {z Z : ℤ} (e : Z ≡ z) (f : SFits w64 z) (h : T (non_neg z)) where
  pub minus_fits : SFits w64 (pos 0 -ℤ Z)
  minus_fits = rw e (go z f h)
    where
      go : (z : ℤ) → SFits w64 z → T (non_neg z) → SFits w64 (pos 0 -ℤ z)
      go (pos n) f h = let l = f.sfits in let s = sub_law' (pos 0) (pos n) in fit_in w64 (pos 0 -ℤ pos n) (omega arith) (omega arith)
      go (negsuc n) f h = absurd h

  pub minus_held : to_z w64 (of_z w64 (pos 0 -ℤ Z)) ≡ neg_ℤ z
  minus_held = to_z-of_z minus_fits ∙ +ℤ_idl (neg_ℤ Z) ∙ ap neg_ℤ e
