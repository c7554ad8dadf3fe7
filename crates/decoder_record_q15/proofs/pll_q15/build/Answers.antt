use mathlib.Core.Path.{◌≡◌, refl, sym, ap, ◌∙◌}
use mathlib.Core.Bool.{Bool, true, false, not, ◌&&◌}
use mathlib.Core.List.{[], ◌∷◌}
use lib.IntN.{ℤ, pos, negsuc}
use lib.Ieee.{Float}
use Prim.Native.Nat.{zero, suc}
use mir.Syntax.{w64}
use mir.Val.{to_z, of_z}
use mir.Facts.{to_z-of_z}
use Rattle.answers.specs.Answer.{rule, first_cause, built_by}
use Rattle.decoder_gains.specs.Gains.{Gains, gains}
use Rattle.decoder_record.specs.State.{Pll}
use Rattle.decoder_record_q15.specs.Fit.{fits64, guard_of}
use Rattle.decoder_record_q15.specs.Fresh.{all_hold, guarded, is_zero, fresh_q15, build_q15}
use Rattle.decoder_record_q15.specs.Records.{pll_of_q15}
use Rattle.decoder_record_q15.specs.declared.pll_q15.StereoPllQ15.{StereoPllQ15}
use Rattle.decoder_record_q15.proofs.Held.{Held, held}
use Rattle.decoder_record_q15.proofs.pll_q15.build.Goals as goal

zero_is : {z : ℤ} → to_z w64 (of_z w64 z) ≡ z → of_z w64 z ≡ 0 → is_zero z ≡ true
zero_is e h = ap is_zero (sym e ∙ ap (to_z w64) h)

not-zero : (z : ℤ) → (of_z w64 z ≡ 0 → ⊥) → is_zero z ≡ false
not-zero (pos zero) h = absurd (h refl)
not-zero (pos (suc n)) h = refl
not-zero (negsuc n) h = refl

-- the definition by the outcomes of its tests; d is the fresh record
says : (g : Gains Float) (d : Pll ℤ) {a x y : Bool} → d ≡ fresh_q15 g → all_hold g && guarded d.gains ≡ a → is_zero d.gains.ki ≡ x → is_zero d.gains.beta ≡ y
    → built_by (first_cause (rule 7 a ∷ rule 8 (not x && not y) ∷ [])) d ≡ build_q15 g
unfolding build_q15
says g d e p q r = rw (← p, ← q, ← r, e)

-- what the machine holds of a record's number
abbrev kept : ℤ → ℤ
kept z = to_z w64 (of_z w64 z)

-- what the test of cause 7 found, of the record d: a, b and c are its three answers
seven : (g : Gains Float) (d : StereoPllQ15) → Held d → {a b c v : Bool} → a ≡ all_hold g → b ≡ fits64 (guard_of (kept d.kp) (kept d.imax))
    → c ≡ fits64 (guard_of (kept d.ki) (kept d.imax)) → a && (b && c) ≡ v → all_hold g && guarded (pll_of_q15 d).gains ≡ v
seven g d h p q r e = rw (← e, p, q, r, to_z-of_z h.kp, to_z-of_z h.ki, to_z-of_z h.imax)

pub returns-then-not-all_hold-guard_fits : goal.returns-then-not-all_hold-guard_fits
returns-then-not-all_hold-guard_fits c =
    let h = held c.fresh-d.result c.struct_told-1.given in
    says (gains c.args.g) (pll_of_q15 c.fresh-d.result) c.fresh-d.ensures (seven (gains c.args.g) c.fresh-d.result h c.all_hold.ensures c.guard_fits.ensures c.guard_fits-2.ensures c.if-not-all_hold-guard_fits.true) refl refl

pub returns-then-d-eq0 : goal.returns-then-d-eq0
returns-then-d-eq0 c =
    let h = held c.fresh-d.result c.struct_told-1.given in
    says (gains c.args.g) (pll_of_q15 c.fresh-d.result) c.fresh-d.ensures (seven (gains c.args.g) c.fresh-d.result h c.all_hold.ensures c.guard_fits.ensures c.guard_fits-2.ensures c.if-not-all_hold-guard_fits.false)
    (zero_is (to_z-of_z h.ki) c.if-d-eq0.true) refl

pub returns-then-d-eq0-2 : goal.returns-then-d-eq0-2
returns-then-d-eq0-2 c =
    let h = held c.fresh-d.result c.struct_told-1.given in
    says (gains c.args.g) (pll_of_q15 c.fresh-d.result) c.fresh-d.ensures (seven (gains c.args.g) c.fresh-d.result h c.all_hold.ensures c.guard_fits.ensures c.guard_fits-2.ensures c.if-not-all_hold-guard_fits.false)
    (not-zero c.fresh-d.result.ki c.if-d-eq0.false) (zero_is (to_z-of_z h.beta) c.if-d-eq0-2.true)

pub returns : goal.returns
returns c =
    let h = held c.fresh-d.result c.struct_told-1.given in
    says (gains c.args.g) (pll_of_q15 c.fresh-d.result) c.fresh-d.ensures (seven (gains c.args.g) c.fresh-d.result h c.all_hold.ensures c.guard_fits.ensures c.guard_fits-2.ensures c.if-not-all_hold-guard_fits.false)
    (not-zero c.fresh-d.result.ki c.if-d-eq0.false) (not-zero c.fresh-d.result.beta c.if-d-eq0-2.false)
