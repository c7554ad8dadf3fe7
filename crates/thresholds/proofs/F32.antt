-- The thresholds of an f32 decoder: on is not below off, and a level that reaches on is not below off. Assumes
-- nothing.
use mathlib.Core.Path.{◌≡◌, refl, sym, subst}
use Prim.Native.Nat.{ℕ, ◌+◌, ◌*◌, ◌≤◌, ◌<◌}
use native.Mathlib.Nat.{mul-le-mul_right, mul-lt-mul_of_pos_right}
use native.Mathlib.Omega.{arith}
use mathlib.Core.Bool.{Bool, true, false, false≢true}
use lib.Dec.{T}
use lib.Ieee.{Float, nan, inf, fin, Format, binary32, up, down, lt, le, below}
use lib.Ieee.Bits.{is_true}
use lib.Ieee.Fits.{down_pos}
use Rattle.rounding.proofs.Value.{part}
use Rattle.answers.specs.Answer.{accepts, first_cause}
use Rattle.floats.specs.Floats.{to_format}
use Rattle.decoder_gains.specs.Gains.{gains_of, causes}
use Rattle.thresholds.proofs.Compare.{lt_out, le_out}
use Rattle.thresholds.proofs.Rising.{Rounds, rises}
use Rattle.thresholds.proofs.Tenths.{off_on}

-- ---- rounded from f64 to f32, they stay in order
narrowed : (f : Format) → Rounds f (to_format f) (λ a c. a) (λ c. c)
unfolding to_format
narrowed f = record { infinite = refl; made = λ m e. refl; above = λ c h. h }

pub off_le_on_f32 : (pilot natural level beta rate : Float) → accepts (first_cause (causes pilot natural level beta rate)) ≡ true
    → let g = gains_of pilot natural level beta rate in le (to_format binary32 g.off) (to_format binary32 g.on) ≡ true
off_le_on_f32 pilot natural level beta rate h =
    let g = gains_of pilot natural level beta rate in
    let o = rises (narrowed binary32) (narrowed binary32) (λ a c b d C D k. k) g.off g.on (off_on pilot natural level beta rate h) in
    is_true (le (to_format binary32 g.off) (to_format binary32 g.on)) o.2

-- ---- a level that reaches on
-- of fractions a / c ≤ b / d ≤ u / w, of either sign, the last is not below the first
around : (r s t : Bool) (a c b d u w : ℕ) → 0 < d
    → part false s (a * d) + part true t (b * c) ≤ part false t (b * c) + part true s (a * d)
    → part false t (b * w) + part true r (u * d) ≤ part false r (u * d) + part true t (b * w)
    → part false r (u * c) + part true s (a * w) < part false s (a * w) + part true r (u * c) → ⊥
around r s t a c b d u w D h k l = omega (arith, mul-le-mul_right w h, mul-le-mul_right c k, mul-lt-mul_of_pos_right l D)

not_below : (b : Bool) → (T b → ⊥) → b ≡ false
not_below true h = absurd (h tt)
not_below false h = refl

-- of any three floats, since a comparison with a NaN is false
pub above_f32 : (on off v : Float) → le off on ≡ true → le on v ≡ true → lt v off ≡ false
unfolding le
above_f32 on nan v a b = absurd (false≢true a)
above_f32 on (inf true) nan a b = refl
above_f32 on (inf true) (inf true) a b = refl
above_f32 on (inf true) (inf false) a b = refl
above_f32 on (inf true) (fin r u w) a b = refl
above_f32 nan (inf false) v a b = absurd (false≢true a)
above_f32 (inf true) (inf false) v a b = absurd (false≢true a)
above_f32 (fin t n d) (inf false) v a b = absurd (false≢true a)
above_f32 (inf false) (inf false) nan a b = refl
above_f32 (inf false) (inf false) (inf true) a b = absurd (false≢true b)
above_f32 (inf false) (inf false) (inf false) a b = refl
above_f32 (inf false) (inf false) (fin r u w) a b = absurd (false≢true b)
above_f32 nan (fin s m e) v a b = absurd (false≢true a)
above_f32 (inf true) (fin s m e) v a b = absurd (false≢true a)
above_f32 (inf false) (fin s m e) nan a b = refl
above_f32 (inf false) (fin s m e) (inf true) a b = absurd (false≢true b)
above_f32 (inf false) (fin s m e) (inf false) a b = refl
above_f32 (inf false) (fin s m e) (fin r u w) a b = absurd (false≢true b)
above_f32 (fin t n d) (fin s m e) nan a b = refl
above_f32 (fin t n d) (fin s m e) (inf true) a b = absurd (false≢true b)
above_f32 (fin t n d) (fin s m e) (inf false) a b = refl
above_f32 (fin t n d) (fin s m e) (fin r u w) a b =
    not_below (below r (u * up w * down e) s (m * up e * down w)) (λ l.
    around r s t (m * up e) (down e) (n * up d) (down d) (u * up w) (down w) (down_pos d)
    (le_out s (m * up e * down d) t (n * up d * down e) (subst T (sym a) tt))
    (le_out t (n * up d * down w) r (u * up w * down d) (subst T (sym b) tt))
    (lt_out r (u * up w * down e) s (m * up e * down w) l))
