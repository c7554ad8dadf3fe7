-- The fields of a float's bit pattern. Source: IEEE 754-2019, 3.4. Definitions only.
use Rattle.std.specs.Prelude.{ℕ, zero, suc, ◌+◌, ◌/◌, ◌%◌}
use Rattle.std.specs.Float.{Format}
use Rattle.std.specs.Float.Ieee.{hid, top}

-- the exponent's field: `hid` is its weight, `top` the sign's
abbrev pub field : Format → ℕ → ℕ
field f b = b % top f / hid f

-- the digits by the exponent's field and the digits' field: a field of 0 has no leading one
abbrev pub sig : Format → ℕ → ℕ → ℕ
sig f zero t = t
sig f (suc x) t = hid f + t

-- a finite value is digits * 2^(field - 1) of the format's smallest one (with 0 - 1 = 0)
abbrev pub digits : Format → ℕ → ℕ
digits f b = sig f (field f b) (b % hid f)
