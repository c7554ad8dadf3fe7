-- The samples that both sides of a list make from a word. Sources: oracle/README.md, "The list of answers of
-- the decoder" (the kinds); oracle/decoder/src/samples.rs (each kind's formula);
-- oracle/stereo/src/samples.rs (`mixed`, and the same rule of a seed alone). Definitions only.
use Rattle.std.specs.Prelude.{ℕ, ◌+◌, ◌*◌, ◌/◌, ◌%◌, ◌^◌, false, cond, eqb, ltb, ℤ, pos, Float}
use Rattle.std.specs.Float.{fin, binary32, binary64}
use Rattle.std.specs.Float.Ieee.{of_bits, of_int, sub, div}
use Rattle.floats.specs.Floats.{to_format}
use Rattle.scale.specs.Scaled.{q15_from_of}
use Rattle.test_words.specs.Words.{signed_of}

-- 32 bits that look random
unfoldable pub mixed_of : ℕ → ℕ
mixed_of n =
    let a = n % 2 ^ 32 * 2654435761 % 2 ^ 32 in
    let b = (a + a / 2 ^ 15) % 2 ^ 32 in
    let c = b * 2246822519 % 2 ^ 32 in
    (c + c / 2 ^ 13) % 2 ^ 32

-- the i-th word of a seed, which the low 32 bits hold
unfoldable pub drawn_of : ℕ → ℕ → ℕ
drawn_of spec i = mixed_of (spec % 2 ^ 32 + i)

-- a pattern: v's bit 31 as the sign, the exponent from 2^-8 to 2^-1 by its three lowest bits, the next 23 as
-- the digits
unfoldable pub bounded_of : ℕ → ℕ
bounded_of v = v / 2 ^ 31 % 2 * 2 ^ 31 + (119 + v % 8) * 2 ^ 23 + v / 8 % 2 ^ 23

-- the sample whose pattern a word's low bits are
abbrev pub low_f32 : ℕ → Float
low_f32 w = of_bits binary32 (w % 2 ^ 32)

abbrev pub low_q15 : ℕ → ℤ
low_q15 w = signed_of 16 w

-- from 1 down to -1 at 2048 and up again, over 4096 entries: k / 1024 from 1, and less 3
unfoldable pub triangle_of : ℕ → Float
triangle_of i =
    let k = i % 4096 in
    let x = div binary64 (of_int binary64 (pos k)) (fin false 1 (pos 10)) in
    cond (ltb k 2048) (sub binary64 (fin false 1 (pos 0)) x) (sub binary64 x (fin false 3 (pos 0)))

-- any bits where 8 divides w, else from 2^-8 to 1 in size
unfoldable pub any_of : ℕ → Float
any_of w = low_f32 (cond (eqb (w % 8) 0) (mixed_of w) (bounded_of (mixed_of w)))

-- the i-th sample of a word: the kind stands above 32 bits, 1 a triangle, 2 one value, 3 sizes from 2^-8 to 1,
-- else any
unfoldable pub sample_f32_of : ℕ → ℕ → Float
sample_f32_of spec i =
    let kind = spec / 2 ^ 32 in
    cond (eqb kind 1) (to_format binary32 (triangle_of i))
    (cond (eqb kind 2) (low_f32 spec)
    (cond (eqb kind 3) (low_f32 (bounded_of (drawn_of spec i)))
    (any_of (drawn_of spec i))))

-- in Q15 no bits make a NaN, so 3 is as any
unfoldable pub sample_q15_of : ℕ → ℕ → ℤ
sample_q15_of spec i =
    let kind = spec / 2 ^ 32 in
    cond (eqb kind 1) (q15_from_of (triangle_of i))
    (cond (eqb kind 2) (low_q15 spec)
    (low_q15 (drawn_of spec i)))
