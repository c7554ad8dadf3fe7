-- Exclusive-or of numbers: it may be regrouped, and twice the same falls out. Assumes nothing.
use Prim.Native.Nat.{ℕ, zero, suc, ◌/◌, ◌%◌, ◌<◌}
use native.Mathlib.Nat.{mod-lt}
use native.Mathlib.Omega.{arith}
use mathlib.Core.Path.{◌≡◌, refl, sym, ap, ◌∙◌}
use lib.Arith.{bin_ind, digits_mod, digits_div}
use lib.Bits.{bit_xor, differ, xor_step, xor_self}
use lib.Dec.{lit<}

-- ---- digits
differ_lt : (x y : ℕ) → x < 2 → y < 2 → differ x y < 2
differ_lt zero y h k = k
differ_lt (suc zero) zero h k = h
differ_lt (suc zero) (suc zero) h k = lit< tt
differ_lt (suc zero) (suc (suc y)) h k = absurd (omega arith)
differ_lt (suc (suc x)) y h k = absurd (omega arith)

differ_assoc : (x y z : ℕ) → x < 2 → y < 2 → z < 2 → differ (differ x y) z ≡ differ x (differ y z)
differ_assoc zero y z h k l = refl
differ_assoc (suc zero) zero z h k l = refl
differ_assoc (suc zero) (suc zero) zero h k l = refl
differ_assoc (suc zero) (suc zero) (suc zero) h k l = refl
differ_assoc (suc zero) (suc zero) (suc (suc z)) h k l = absurd (omega arith)
differ_assoc (suc zero) (suc (suc y)) z h k l = absurd (omega arith)
differ_assoc (suc (suc x)) y z h k l = absurd (omega arith)

even : (a : ℕ) → a % 2 < 2
even a = mod-lt a (lit< tt)

module _ (a b : ℕ) where
  half : bit_xor a b / 2 ≡ bit_xor (a / 2) (b / 2)
  half = rw (xor_step a b) (digits_div (bit_xor (a / 2) (b / 2)) (differ_lt (a % 2) (b % 2) (even a) (even b)))

  odd : bit_xor a b % 2 ≡ differ (a % 2) (b % 2)
  odd = rw (xor_step a b) (digits_mod (bit_xor (a / 2) (b / 2)) (differ_lt (a % 2) (b % 2) (even a) (even b)))

-- ---- numbers
abbrev Regroups : ℕ → Type 0
Regroups a = (b c : ℕ) → bit_xor (bit_xor a b) c ≡ bit_xor a (bit_xor b c)

pub xor_assoc : (a : ℕ) → Regroups a
xor_assoc = bin_ind Regroups (λ b c. refl) again
  where
    again : (a : ℕ) → Regroups (a / 2) → Regroups a
    again a ih b c =
        rw (xor_step (bit_xor a b) c, xor_step a (bit_xor b c), half a b, half b c, odd a b, odd b c, ih (b / 2) (c / 2), differ_assoc (a % 2) (b % 2) (c % 2) (even a) (even b) (even c))

pub xor_twice : (a b : ℕ) → bit_xor a (bit_xor a b) ≡ b
xor_twice a b = sym (xor_assoc a a b) ∙ rw (xor_self a)

pub xor_cancel : (a b c : ℕ) → bit_xor a b ≡ bit_xor a c → b ≡ c
xor_cancel a b c e = sym (xor_twice a b) ∙ ap (bit_xor a) e ∙ xor_twice a c
