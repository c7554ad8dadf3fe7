-- The cosine of a phase from a lent table. Source: document 01, "Cosine lookup"; where a table lacks an entry,
-- reference/stereo.rs (`pair`: both entries count as 0). Definitions only.
-- A phase is a number below 2^32, one turn being 2^32.
use Rattle.std.specs.Prelude.{ℕ, ◌+◌, ◌-◌, ◌/◌, ◌%◌, ◌^◌, false, cond, List, length, get_or, ℤ, pos, ◌+ℤ◌, ◌-ℤ◌, ◌*ℤ◌, nat_lt, slice_index_or, Float}
use Rattle.std.specs.Float.{nan, fin, binary32}
use Rattle.std.specs.Float.Ieee.{round, add, sub, mul}
use Rattle.numbers.specs.Integers.{sat16_of, round_shift_of, phase_times}
use Rattle.lookup.specs.declared.lookup.Pair.{Pair}

-- a quarter of a turn
abbrev pub quarter : ℕ
quarter = 2 ^ 30

-- p less q, modulo 2^32, for a q below 2^32
abbrev pub phase_less : ℕ → ℕ → ℕ
phase_less p q = (p + (2 ^ 32 - q)) % 2 ^ 32

-- the phase at which the table's cosine is the sine of k times p: s at 1, s2 at 2, s3 at 3
abbrev pub sine_at : ℕ → ℕ → ℕ
sine_at k p = phase_less (phase_times k p) quarter

-- the first of the two neighbours
abbrev pub index_of : ℕ → ℕ
index_of p = p / 2 ^ 20

-- ---- f32: a + (b - a) times f, each operation rounded once; f = (P mod 2^20) / 2^20, which an f32 holds exactly
abbrev pub frac_f32 : ℕ → Float
frac_f32 p = round binary32 false (p % 2 ^ 20) (2 ^ 20)

unfoldable pub cos_f32 : List Float → ℕ → Float
cos_f32 t p =
    let i = index_of p in
    let a = get_or t i nan in
    let b = get_or t (i + 1) nan in
    cond (nat_lt (i + 1) (length t)) (add binary32 a (mul binary32 (sub binary32 b a) (frac_f32 p))) (fin false 0 (pos 0))

-- c and s
abbrev pub pair_f32 : List Float → ℕ → Pair
pair_f32 t p = record { c = cos_f32 t p; s = cos_f32 t (sine_at 1 p) }

-- ---- Q15: a + round_shift((b - a) times f, 15), limited; f = (P div 2^5) mod 2^15
abbrev pub frac_q15 : ℕ → ℕ
frac_q15 p = p / 2 ^ 5 % 2 ^ 15

-- between the neighbours a and b, at f of 2^15
unfoldable pub between_q15 : ℤ → ℤ → ℕ → ℤ
between_q15 a b f = sat16_of (a +ℤ round_shift_of ((b -ℤ a) *ℤ pos f) 15)

unfoldable pub cos_q15 : List ℤ → ℕ → ℤ
cos_q15 t p =
    let i = index_of p in
    cond (nat_lt (i + 1) (length t)) (between_q15 (slice_index_or t i (pos 0)) (slice_index_or t (i + 1) (pos 0)) (frac_q15 p)) (pos 0)
