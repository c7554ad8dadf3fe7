-- Whole numbers: limits, the rounding shift, Q15 products and sums, phases. Source: document 01, "Number
-- helpers" and "all phase arithmetic modulo 2^32". Definitions only.
use Rattle.std.specs.Prelude.{ℕ, suc, ◌-◌, ◌*◌, ◌%◌, ◌^◌, cond, ℤ, pos, negsuc, ◌+ℤ◌, ◌-ℤ◌, ◌*ℤ◌, ◌==◌, int_lt, nat_le}
use Rattle.std.specs.Int.Signed.{shr_z}

-- limited to -32768..32767 (`negsuc n` is -1 - n)
unfoldable pub sat16_of : ℤ → ℤ
sat16_of x = cond (int_lt (pos 32767) x) (pos 32767) (cond (int_lt x (negsuc 32767)) (negsuc 32767) x)

-- stopping at the largest i64
abbrev pub stop64 : ℤ → ℤ
stop64 x = cond (int_lt (pos 9223372036854775807) x) (pos 9223372036854775807) x

-- x plus 2^(s-1), stopping at the largest i64, then divided by 2^s towards minus infinity (`shr_z`); s of 0
-- gives x; s of 63 or more gives -1 below 0, else 0
unfoldable pub round_shift_of : ℤ → ℕ → ℤ
round_shift_of x s =
    cond (s == 0) x
    (cond (nat_le 63 s) (cond (int_lt x (pos 0)) (negsuc 0) (pos 0))
    (shr_z (stop64 (x +ℤ pos (2 ^ (s - 1)))) (2 ^ s)))

-- Q15: the exact product rounded to 15 places and limited, the limited sum and difference
abbrev pub q15_mul_of : ℤ → ℤ → ℤ
q15_mul_of a b = sat16_of (round_shift_of (a *ℤ b) 15)

abbrev pub q15_add_of : ℤ → ℤ → ℤ
q15_add_of a b = sat16_of (a +ℤ b)

abbrev pub q15_sub_of : ℤ → ℤ → ℤ
q15_sub_of a b = sat16_of (a -ℤ b)

-- x modulo m: how far x is above the next multiple of m that is not above it
abbrev pub mod_z : ℤ → ℕ → ℕ
mod_z (pos n) m = n % m
mod_z (negsuc n) m = m - suc (n % m)

-- k times a phase, one turn being 2^32
abbrev pub phase_times : ℕ → ℕ → ℕ
phase_times k p = k * p % 2 ^ 32
