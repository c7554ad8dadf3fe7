-- The Q15 lookup lies between the two entries, so that nothing in it is limited, also in 32 bits. Assumes nothing.
use Rattle.std.proofs.Common.{◌≡◌, ℕ, suc, ◌+◌, ◌*◌, ◌/◌, ◌^◌, ◌<◌, ◌≤◌, Bool, true, false, cond, T, ltb, leb, ◌⊎◌, List, length, get_or, ℤ, pos, negsuc, ◌+ℤ◌, ◌-ℤ◌, ◌*ℤ◌, neg_ℤ, nat_abs, ◌≤ℤ◌, sym, refl, ap, ◌∙◌, inl, inr, mod-lt, mul-le-mul_left, arith, lit<, to_z-of_z, w16, w32, SFits, to_z, of_z, le-ltb, lt-ltb}
use lib.Signed.{mag, shr_z}
use mir.Syntax.{Width}
use mir.Val.{hbits}
use mir.Facts.{sfits_widen}
use Rattle.rounding.proofs.Lin.{back, up, dn, add_law, sub_law', up_neg, dn_neg, order_in, fit_out, fit_between, abs_in, abs_out, abs_fits, add_le, mul_le, shr_law}
use Rattle.numbers.specs.Integers.{round_shift_of}
use Rattle.numbers.proofs.Integers.{round_is, sat_same, sat_fits}
use Rattle.lookup.specs.Lookup.{index_of, frac_q15, between_q15, cos_q15}

-- z lies between a and b, whichever is the lower
abbrev pub Between : ℤ → ℤ → ℤ → Type 0
Between a b z = ((a ≤ℤ z) × (z ≤ℤ b)) ⊎ ((b ≤ℤ z) × (z ≤ℤ a))

-- a table's neighbours and the way from the one to the other, in parts of 2^15
pub record Neighbours (a b : ℤ) (k : ℕ) : Type 0 where
  pub first : SFits w16 a
  pub second : SFits w16 b
  pub part : k < 2 ^ 15

-- the part of a difference d, rounded, lies between 0 and d
part_of : (a b d : ℤ) (k : ℕ) → k ≤ 2 ^ 15 → b -ℤ a ≡ d → Between a b (a +ℤ shr_z (d *ℤ pos k +ℤ pos (2 ^ 14)) (2 ^ 15))
part_of a b (pos n) k l e =
    let q = pos ((n * k + 2 ^ 14) / 2 ^ 15) in
    let s = add_law a q in
    inl (order_in a (a +ℤ q) (omega arith), order_in (a +ℤ q) b (omega (arith, sub_law' b a, ap up e, ap dn e, mul-le-mul_left n l)))
part_of a b (negsuc n) k l e =
    let p = neg_ℤ (pos (suc n * k)) in
    let q = shr_z (p +ℤ pos (2 ^ 14)) (2 ^ 15) in
    let s = add_law a q in
    let r = shr_law (p +ℤ pos (2 ^ 14)) (2 ^ 15) (lit< tt) in
    let t = add_law p (pos (2 ^ 14)) in
    let u = up_neg (pos (suc n * k)) in
    let d = dn_neg (pos (suc n * k)) in
    inr (order_in b (a +ℤ q) (omega (arith, sub_law' b a, ap up e, ap dn e, mul-le-mul_left (suc n) l)), order_in (a +ℤ q) a (omega arith))

module _ {a b : ℤ} {k : ℕ} (n : Neighbours a b k) where
  abbrev pub product : ℤ
  product = (b -ℤ a) *ℤ pos k

  difference_le : nat_abs (b -ℤ a) ≤ 65535
  difference_le =
      let d = sub_law' b a in
      let f = fit_out n.first in
      let g = fit_out n.second in
      abs_in 65535 (b -ℤ a) (omega arith) (omega arith)

  product_le : nat_abs product ≤ 65535 * 32767
  product_le = let l = n.part in mul_le (b -ℤ a) (pos k) 65535 32767 difference_le (omega arith)

  -- the shift does not stop at the largest i64
  pub shift_is : round_shift_of product 15 ≡ shr_z (product +ℤ pos (2 ^ 14)) (2 ^ 15)
  shift_is = let l = product_le in round_is product 15 (λ e. omega arith) (lit< tt) (omega (arith, abs_out product))

  pub between : Between a b (a +ℤ round_shift_of ((b -ℤ a) *ℤ pos k) 15)
  between = let l = n.part in rw shift_is (part_of a b (b -ℤ a) k (omega arith) refl)

  pub between_fits : SFits w16 (a +ℤ round_shift_of product 15)
  between_fits = elim between [ inl (h, l) ↦ fit_between n.first n.second h l | inr (h, l) ↦ fit_between n.second n.first h l ]

  pub between_is : between_q15 a b k ≡ a +ℤ round_shift_of product 15
  unfolding between_q15
  between_is = sat_same (a +ℤ round_shift_of product 15) between_fits

  shift_le : nat_abs (round_shift_of product 15) ≤ 65535
  shift_le =
      let q = round_shift_of product 15 in
      let s = add_law a q in
      let f = fit_out n.first in
      let g = fit_out between_fits in
      abs_in 65535 q (omega arith) (omega arith)

-- ---- what a width of 32 bits or more holds of these numbers: `of z` of a number z that was worked out,
-- `entry z` of an entry of the table
module _ (w : Width) (room : T (leb 31 (hbits w))) where
  abbrev of : ℤ → ℤ
  of z = to_z w (of_z w z)

  abbrev entry : ℤ → ℤ
  entry z = of (to_z w16 (of_z w16 z))

  wide : {z : ℤ} → SFits w16 z → SFits w z
  wide f = sfits_widen room (sfits_widen {w' = w32} tt f)

  bounded : (z : ℤ) → nat_abs z ≤ 2147483647 → SFits w z
  bounded z h = sfits_widen room (abs_fits w32 z h (lit< tt))

  pub entry_fits : (z : ℤ) → mag z < 2 ^ 15 → SFits w (to_z w16 (of_z w16 z))
  entry_fits z h = rw (back w16 z h) (wide (record { sfits = h }))

  entry_is : {z : ℤ} → SFits w16 z → entry z ≡ z
  entry_is {z} f = to_z-of_z (entry_fits z f.sfits) ∙ to_z-of_z f

  module _ {a b : ℤ} {k : ℕ} (n : Neighbours a b k) where
    difference_is : entry b -ℤ entry a ≡ b -ℤ a
    difference_is = rw (entry_is n.second, entry_is n.first)

    pub difference_fits : SFits w (entry b -ℤ entry a)
    difference_fits = let l = difference_le n in rw difference_is (bounded (b -ℤ a) (omega arith))

    product_is : of (entry b -ℤ entry a) *ℤ to_z w k ≡ product n
    product_is = let l = n.part in rw (to_z-of_z difference_fits, difference_is, to_z-of_z (bounded (pos k) (omega arith)))

    pub product_fits : SFits w (of (entry b -ℤ entry a) *ℤ to_z w k)
    product_fits = let l = product_le n in rw product_is (bounded (product n) (omega arith))

    pub product_held : of (of (entry b -ℤ entry a) *ℤ to_z w k) ≡ product n
    product_held = to_z-of_z product_fits ∙ product_is

    pub half_fits : SFits w (of (of (entry b -ℤ entry a) *ℤ to_z w k) +ℤ pos (2 ^ 14))
    half_fits = let l = product_le n in rw product_held (bounded (product n +ℤ pos (2 ^ 14)) (omega (arith, add_le (product n) (pos (2 ^ 14)))))

    pub shift_held : shr_z (of (of (of (entry b -ℤ entry a) *ℤ to_z w k) +ℤ pos (2 ^ 14))) (2 ^ 15) ≡ round_shift_of (product n) 15
    shift_held = rw (to_z-of_z half_fits, product_held) (sym (shift_is n))

    -- q is the shifted product
    module _ {q : ℤ} (e : q ≡ round_shift_of (product n) 15) where
      result_is : entry a +ℤ of q ≡ a +ℤ round_shift_of (product n) 15
      result_is = let l = shift_le n in rw (e, entry_is n.first, to_z-of_z (bounded (round_shift_of (product n) 15) (omega arith)))

      pub result_fits : SFits w (entry a +ℤ of q)
      result_fits = rw result_is (wide (between_fits n))

      pub result_held : of (entry a +ℤ of q) ≡ a +ℤ round_shift_of (product n) 15
      result_held = to_z-of_z result_fits ∙ result_is

-- ---- by the table and the phase
module _ (t : List ℤ) (p : ℕ) where
  abbrev pub entry_at : ℤ
  entry_at = get_or t (index_of p) (pos 0)

  abbrev pub entry_after : ℤ
  entry_after = get_or t (index_of p + 1) (pos 0)

  abbrev pub Found : Type 0
  Found = Neighbours entry_at entry_after (frac_q15 p)

  pub found : mag entry_at < 2 ^ 15 → mag entry_after < 2 ^ 15 → Found
  found f g = record { first = record { sfits = f }; second = record { sfits = g }; part = mod-lt (p / 2 ^ 5) (lit< tt) }

  pub cos_q15_at : index_of p + 1 < length t → between_q15 entry_at entry_after (frac_q15 p) ≡ cos_q15 t p
  unfolding cos_q15
  cos_q15_at h = rw (lt-ltb (index_of p + 1) (length t) h)

  pub cos_q15_lacks : length t ≤ index_of p + 1 → pos 0 ≡ cos_q15 t p
  unfolding cos_q15
  cos_q15_lacks h = rw (le-ltb (index_of p + 1) (length t) h)

  -- the lookup is an i16, whatever the table holds
  pub cos_q15_fits : SFits w16 (cos_q15 t p)
  unfolding cos_q15 between_q15
  cos_q15_fits = by (ltb (index_of p + 1) (length t))
    where
      by : (x : Bool) → SFits w16 (cond x (between_q15 entry_at entry_after (frac_q15 p)) (pos 0))
      by true = sat_fits _
      by false = record { sfits = lit< tt }
