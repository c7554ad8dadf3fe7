-- The Q15 level: no step of its arithmetic passes an i64, and it keeps its bounds, for any beta in 0..=2^31
-- and any q of at most 2^30 in size. Assumes nothing.
use Prim.Native.Nat.{ℕ, suc, ◌+◌, ◌*◌, ◌^◌, ◌≤◌, ◌<◌}
use mathlib.Core.Path.{◌≡◌}
use mathlib.Core.Bool.{true, false≢true}
use native.Mathlib.Omega.{arith}
use native.Mathlib.Nat.{mul-le-mul_right}
use lib.Dec.{lit<}
use lib.IntN.{ℤ, pos, negsuc, neg_ℤ, nat_abs, ◌+ℤ◌, ◌-ℤ◌, ◌*ℤ◌}
use lib.Signed.{shr_z}
use mir.Syntax.{w64}
use mir.Val.{SFits}
use Rattle.rounding.proofs.Lin.{up, dn, add_law, sub_law', up_neg, dn_neg, abs_in, abs_out, abs_fits, mul_le, fit_in, shr_law}
use Rattle.numbers.specs.Integers.{round_shift_of}
use Rattle.numbers.proofs.Integers.{round_is}
use Rattle.decoder_record_q15.specs.Fit.{within_z, level_low, level_high, level_fit}
use Rattle.decoder_q15.specs.Q15.{level_q15}
use Rattle.answers.proofs.Tests.{and_out}
use Rattle.decoder_record_q15.proofs.Ranges.{within_out, within_in}

-- z keeps the level's bounds
abbrev In : ℤ → Type 0
In z = (dn z ≤ up z + 2305843010287435776) × (up z ≤ 2305843010287435775 + dn z)

-- level + b * d for a d that leads from the rounded level r to q
module _ (level q r : ℤ) (b : ℕ) (b-le : b ≤ 2 ^ 31) (l-in : In level) (q-le : up q + dn q ≤ 2 ^ 30)
    (r-low : up r * 2 ^ 31 + dn level ≤ up level + 2 ^ 30 + dn r * 2 ^ 31) (r-high : up level + 2 ^ 30 + dn r * 2 ^ 31 < up r * 2 ^ 31 + dn level + 2 ^ 31) where
  by_sign : (d : ℤ) → up d + (dn q + up r) ≡ up q + dn r + dn d → In (level +ℤ pos b *ℤ d)
  by_sign (pos e) h =
      let t = mul-le-mul_right e b-le in
      let s = add_law level (pos (b * e)) in
      (omega arith, omega arith)
  by_sign (negsuc e) h =
      let t = mul-le-mul_right (suc e) b-le in
      let z = neg_ℤ (pos (b * suc e)) in
      let s = add_law level z in
      let u = up_neg (pos (b * suc e)) in
      let v = dn_neg (pos (b * suc e)) in
      (omega arith, omega arith)

module _ (beta level q : ℤ) (fit : level_fit beta level ≡ true) (small : nat_abs q ≤ 2 ^ 30) where
  bounds : (within_z (pos 0) (pos (2 ^ 31)) beta ≡ true) × (within_z level_low level_high level ≡ true)
  bounds = and_out (within_z (pos 0) (pos (2 ^ 31)) beta) (within_z level_low level_high level) fit

  level_in : In level
  level_in = let w = within_out level_low level_high level bounds.1 in (omega arith, omega arith)

  abbrev raised : ℤ
  raised = level +ℤ pos (2 ^ 30)

  abbrev r : ℤ
  r = shr_z raised (2 ^ 31)

  -- the rounding's sum
  pub raised_fits : SFits w64 raised
  raised_fits = let l = level_in in let s = add_law level (pos (2 ^ 30)) in fit_in w64 raised (omega arith) (omega arith)

  -- the rounding never stops at the largest i64
  pub rounded_is : round_shift_of level 31 ≡ r
  rounded_is = let l = level_in in round_is level 31 (λ e. omega arith) (lit< tt) (omega arith)

  r_law : (up r * 2 ^ 31 + dn level ≤ up level + 2 ^ 30 + dn r * 2 ^ 31) × (up level + 2 ^ 30 + dn r * 2 ^ 31 < up r * 2 ^ 31 + dn level + 2 ^ 31)
  r_law = let s = add_law level (pos (2 ^ 30)) in let k = shr_law raised (2 ^ 31) (lit< tt) in (omega arith, omega arith)

  d_le : nat_abs (q -ℤ r) ≤ 2 ^ 31
  d_le =
      let l = level_in in
      let k = r_law in
      let s = sub_law' q r in
      let a = abs_out q in
      abs_in (2 ^ 31) (q -ℤ r) (omega arith) (omega arith)

  pub d_fits : SFits w64 (q -ℤ round_shift_of level 31)
  d_fits = rw rounded_is (abs_fits w64 (q -ℤ r) d_le (lit< tt))

  beta_le : nat_abs beta ≤ 2 ^ 31
  beta_le = let w = within_out (pos 0) (pos (2 ^ 31)) beta bounds.0 in abs_in (2 ^ 31) beta (omega arith) (omega arith)

  pub m_fits : SFits w64 (beta *ℤ (q -ℤ round_shift_of level 31))
  m_fits = rw rounded_is (abs_fits w64 (beta *ℤ (q -ℤ r)) (mul_le beta (q -ℤ r) (2 ^ 31) (2 ^ 31) beta_le d_le) (lit< tt))

  kept : In (level_q15 beta level q)
  unfolding level_q15
  kept = rw rounded_is (go beta bounds.0)
    where
      go : (b : ℤ) → within_z (pos 0) (pos (2 ^ 31)) b ≡ true → In (level +ℤ b *ℤ (q -ℤ r))
      go (pos n) h =
          let w = within_out (pos 0) (pos (2 ^ 31)) (pos n) h in
          by_sign level q r n (omega arith) level_in (omega (arith, abs_out q)) r_law.0 r_law.1 (q -ℤ r) (omega (arith, sub_law' q r))
      go (negsuc n) h = absurd (false≢true h)

  pub next_within : level_fit beta (level_q15 beta level q) ≡ true
  next_within = let k = kept in rw bounds.0 (within_in level_low level_high (level_q15 beta level q) (omega arith) (omega arith))

  pub next_fits : SFits w64 (level_q15 beta level q)
  next_fits = let k = kept in fit_in w64 (level_q15 beta level q) (omega arith) (omega arith)
