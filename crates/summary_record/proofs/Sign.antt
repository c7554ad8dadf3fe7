-- f32 magnitudes: no NaN and no sign, by one comparison of the pattern; what is above a unsigned one is unsigned.
-- Assumes nothing.
use Prim.Native.Nat.{ℕ, zero, suc, ◌+◌, ◌%◌, ◌/◌}
use mathlib.Core.Path.{◌≡◌, refl, sym, ap, subst, ◌∙◌}
use mathlib.Core.Bool.{Bool, true, false, not, cond, false≢true}
use borrow.Author.Tests.{leb-true, leb-false, lt-ltb, le-ltb}
use lib.Dec.{T, eqb, leb, ltb}
use lib.Ieee.{Float, nan, inf, fin, Format, prec, low, hid, ones, top, odd, of_fields, of_bits, to_bits, fits, is_nan, lt}
use lib.Ieee.Bits.{of_bits-to_bits}
use Rattle.decoder.specs.F32.{f32}
use Rattle.summary_record.specs.F32.{unsigned_f32}
use Rattle.summary_record.proofs.Fits.{Unsigned, unsigned_by}

-- ---- the sign of a value by its pattern
odd_unsigned : (d : ℕ) (s : Bool) (q k l : ℕ) → unsigned_f32 (odd d s q k l) ≡ not s
unfolding odd
odd_unsigned d s zero k l = refl
odd_unsigned d s (suc q) k l = refl

fields_unsigned : (f : Format) (s : Bool) (x t : ℕ) → T (not (is_nan (of_fields f s x t))) → unsigned_f32 (of_fields f s x t) ≡ not s
unfolding of_fields is_nan
fields_unsigned f s zero t h = odd_unsigned (prec f) s t 0 (low f)
fields_unsigned f s (suc x) t h = go (eqb (suc x) (ones f)) (eqb t 0) h
  where
    go : (a b : Bool) → T (not (is_nan (cond a (cond b (inf s) nan) (odd (prec f) s (hid f + t) x (low f))))) → unsigned_f32 (cond a (cond b (inf s) nan) (odd (prec f) s (hid f + t) x (low f))) ≡ not s
    go true true u = refl
    go true false u = absurd u
    go false b u = odd_unsigned (prec f) s (hid f + t) x (low f)

bits_unsigned : (f : Format) (b : ℕ) → T (not (is_nan (of_bits f b))) → unsigned_f32 (of_bits f b) ≡ not (leb (top f) b)
unfolding of_bits
bits_unsigned f b h = fields_unsigned f (leb (top f) b) (b % top f / hid f) (b % hid f) h

not_leb : (a b : ℕ) → ltb b a ≡ not (leb a b)
not_leb a b = go (leb a b) refl
  where
    go : (t : Bool) → leb a b ≡ t → ltb b a ≡ not t
    go true e = le-ltb b a (leb-true a b e)
    go false e = lt-ltb b a (leb-false a b e)

pub unsigned_test : (f : Format) (x : Float) → T (fits f x) → T (not (is_nan x)) → ltb (to_bits f x) (top f) ≡ unsigned_f32 x
unsigned_test f x h k =
    let e = of_bits-to_bits f x h in
    not_leb (top f) (to_bits f x) ∙ sym (bits_unsigned f (to_bits f x) (subst (λ (z : Float). T (not (is_nan z))) (sym e) k)) ∙ ap unsigned_f32 e

-- what is above a unsigned value is unsigned
above_unsigned : (m y : Float) → unsigned_f32 m ≡ true → lt m y ≡ true → unsigned_f32 y ≡ true
unfolding lt
above_unsigned nan y h k = absurd (false≢true h)
above_unsigned (inf s) nan h k = absurd (false≢true k)
above_unsigned (inf true) (inf t) h k = absurd (false≢true h)
above_unsigned (inf true) (fin t n g) h k = absurd (false≢true h)
above_unsigned (inf false) (inf t) h k = absurd (false≢true k)
above_unsigned (inf false) (fin t n g) h k = absurd (false≢true k)
above_unsigned (fin s a e) nan h k = absurd (false≢true k)
above_unsigned (fin true a e) (inf t) h k = absurd (false≢true h)
above_unsigned (fin true a e) (fin t n g) h k = absurd (false≢true h)
above_unsigned (fin false a e) (inf t) h k = k
above_unsigned (fin false a e) (fin true n g) h k = absurd (false≢true k)
above_unsigned (fin false a e) (fin false n g) h k = refl

pub unsigned_f32_lem : Unsigned f32 unsigned_f32
unfolding lt
unsigned_f32_lem = unsigned_by f32 unsigned_f32 refl refl above_unsigned
