-- With h the place of the first digit that falls off, 2^place is 2 * h. Assumes nothing.
use Prim.Native.Nat.{ℕ, ◌+◌, ◌-◌, ◌*◌, ◌%◌, ◌^◌, ◌≤◌, ◌<◌}
use mathlib.Core.Path.{◌≡◌, refl, sym, ap, ◌∙◌}
use mathlib.Core.Bool.{Bool, true, false, cond}
use native.Mathlib.Omega.{arith}
use native.Mathlib.Nat.{one-mul, mod-eq_of_lt, mul_comm, lt_of_lt_of_le, div-le_self}
use lib.Pow.{pow-lt, pow_pos, pow_mono, pow-add}
use mir.Val.{bool_byte}
use Rattle.rounding.proofs.Cut.{cut_whole, cut_digits, cut_off}
use Rattle.cuts.proofs.cut.cut.Goals as goal

byte : (b : Bool) → bool_byte b ≡ cond b 1 0
byte true = refl
byte false = refl

byte_le : (b : Bool) → bool_byte b ≤ 1
byte_le true = omega arith
byte_le false = omega arith

-- 1 << (p - 1) as the machine has it, for p from 1 to 64
module _ (p : ℕ) (some : p ≡ 0 → ⊥) (low : p ≤ 64) where
  half_is : 1 * 2 ^ (p - 1) % 18446744073709551616 ≡ 2 ^ (p - 1)
  half_is = ap (λ (z : ℕ). z % 18446744073709551616) (one-mul (2 ^ (p - 1))) ∙ mod-eq_of_lt (pow-lt {j = 64} (omega arith))

twice : (p : ℕ) → (p ≡ 0 → ⊥) → 2 * 2 ^ (p - 1) ≡ 2 ^ p
twice p n = mul_comm 2 (2 ^ (p - 1)) ∙ sym (pow-add 2 (p - 1) 1) ∙ ap (λ (z : ℕ). 2 ^ z) (next p n)
  where
    next : (p : ℕ) → (p ≡ 0 → ⊥) → p - 1 + 1 ≡ p
    next p n = omega arith

far : (d p : ℕ) → d < 2 ^ 64 → 64 < p → d * 2 < 2 ^ p
far d p h l = lt_of_lt_of_le {m = 2 ^ 65} (omega arith) (pow_mono {i = 65} {j = p} (omega arith))

pub returns-then-place-eq0 : goal.returns-then-place-eq0
returns-then-place-eq0 c = rw c.if-place-eq0.true (sym (cut_whole _ c.args.negative c.args.d))

pub returns-then-place-gt64 : goal.returns-then-place-gt64
returns-then-place-gt64 c =
    let a = c in
    byte c.carries.result
    ∙ ap (λ (b : Bool). cond b 1 0) c.carries.ensures
    ∙ cut_off _ a.args.negative a.args.d (2 ^ a.args.place) (far a.args.d a.args.place a.ranges.d.fits c.if-place-gt64.true)

pub nonzero_rem-d : goal.nonzero_rem-d
nonzero_rem-d c = let p = c.args.place in rw (half_is p c.if-place-eq0.false c.if-place-gt64.false) (pow_pos (p - 1))

pub overflow_add-result : goal.overflow_add-result
overflow_add-result c =
    let a = c in
    omega (arith, div-le_self a.args.d (2 ^ (a.args.place - 1)), byte_le c.carries-2.result, a.ranges.d.fits)

pub returns : goal.returns
returns c =
    let a = c in
    let d = a.args.d in
    let p = a.args.place in
    let h = 2 ^ (p - 1) in
    rw (byte c.carries-2.result, c.carries-2.ensures, half_is p c.if-place-eq0.false c.if-place-gt64.false, ← twice p c.if-place-eq0.false)
    (cut_digits _ a.args.negative d h (pow_pos (p - 1)))
