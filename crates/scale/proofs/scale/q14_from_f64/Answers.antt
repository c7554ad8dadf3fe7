use mathlib.Core.Path.{◌≡◌, refl, sym, ap, ◌∙◌, subst}
use mathlib.Core.Bool.{Bool, true, false, not, ◌||◌}
use native.Mathlib.Omega.{arith}
use lib.Dec.{T}
use lib.IntN.{ℤ, pos, negsuc}
use lib.Signed.{lt_z}
use lib.Ieee.{Float, fin, of_bits, is_nan, ne}
use lib.Ieee.Bits.{is_false}
use lib.Ieee.Compare.{differs_from_itself}
use mir.Syntax.{w16, w64}
use mir.Val.{SFits, to_z, of_z}
use mir.Facts.{to_z-of_z}
use Rattle.rounding.proofs.Lin.{back, lt_no, fit_in}
use Rattle.rounding.proofs.Own.{not_nan}
use Rattle.scale.specs.Scaled.{scaled_of, q14_from_of}
use Rattle.answers.specs.Answer.{Built, made, refused, built_by, rule}
use Rattle.scale.proofs.scale.q14_from_f64.Goals.{After-floor_scaled-v}
use Rattle.scale.proofs.scale.q14_from_f64.Goals as goal

-- the definition by the outcomes of its tests
abbrev answer : Bool → Bool → Bool → ℤ → Built ℤ
answer a b c v = built_by (rule 18 (not (a || (b || c)))) v

none : (x : Float) → ne x x ≡ true → refused 18 ≡ q14_from_of x
unfolding q14_from_of is_nan
none x h = ap q14_from_of (sym (differs_from_itself x (subst T (sym h) tt)))

-- Y is v as the machine reads it back from its bits
module _ (x : Float) {v Y : ℤ} (real : ne x x ≡ false) (e : v ≡ scaled_of x (fin false 1 (pos 14))) (back : Y ≡ v) where
  known : {b c : Bool} → lt_z Y (negsuc 32767) ≡ b → lt_z (pos 32767) Y ≡ c → answer false b c Y ≡ q14_from_of x
  unfolding q14_from_of
  known p q = rw (← e, ← back, p, q, is_false (is_nan x) (not_nan x real))

  low : lt_z Y (negsuc 32767) ≡ true → refused 18 ≡ q14_from_of x
  low p = known p refl

  high : lt_z Y (negsuc 32767) ≡ false → lt_z (pos 32767) Y ≡ true → refused 18 ≡ q14_from_of x
  high p q = known p q

  within : lt_z Y (negsuc 32767) ≡ false → lt_z (pos 32767) Y ≡ false → made Y ≡ q14_from_of x
  within p q = known p q

fits : (Y : ℤ) → lt_z Y (negsuc 32767) ≡ false → lt_z (pos 32767) Y ≡ false → SFits w16 Y
fits Y p q = fit_in w16 Y (omega (arith, lt_no (pos 32767) Y q)) (omega (arith, lt_no Y (negsuc 32767) p))

read : (c : After-floor_scaled-v) → to_z w64 (of_z w64 c.floor_scaled-v.result) ≡ c.floor_scaled-v.result
read c = back w64 c.floor_scaled-v.result c.floor_scaled-v.type_inv

pub returns-then-x : goal.returns-then-x
returns-then-x c = none c.args.x c.if-x.true

pub returns-then-v-ltminus32768 : goal.returns-then-v-ltminus32768
unfolding of_bits
returns-then-v-ltminus32768 c = let v = c.before in low v.args.x v.if-x.false v.floor_scaled-v.ensures (read v) c.if-v-ltminus32768.true

pub returns-then-v-gt32767 : goal.returns-then-v-gt32767
unfolding of_bits
returns-then-v-gt32767 c = let v = c.before.before in high v.args.x v.if-x.false v.floor_scaled-v.ensures (read v) c.if-v-ltminus32768.false c.if-v-gt32767.true

pub overflow_cast-result : goal.overflow_cast-result
overflow_cast-result c = fits _ c.if-v-ltminus32768.false c.if-v-gt32767.false

pub returns : goal.returns
unfolding of_bits
returns c =
    let v = c.before.before in
    ap made (to_z-of_z (fits _ c.if-v-ltminus32768.false c.if-v-gt32767.false)) ∙ within v.args.x v.if-x.false v.floor_scaled-v.ensures (read v) c.if-v-ltminus32768.false c.if-v-gt32767.false
