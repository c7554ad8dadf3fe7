-- `goodN` is the test of cause N passed_plain, as the definition has it, and `badN` the test failed_plain. Assumes nothing.
use mathlib.Core.Path.{◌≡◌, refl, ap, ◌∙◌}
use mathlib.Core.Bool.{Bool, true, ◌&&◌}
use mathlib.Core.List.{[], ◌∷◌}
use lib.Ieee.{Float, binary64, of_bits, round, div, lt, le}
use Rattle.answers.specs.Answer.{rule, first_cause, built_by}
use Rattle.answers.proofs.Tests.{failed_plain, passed_plain}
use Rattle.floats.specs.Floats.{nearest, positive, in_range}
use Rattle.decoder_gains.specs.Gains.{nought, one, all_narrow, gains_of, common_of}
use Rattle.decoder_gains.proofs.common.Goals.{After-are_narrow, After-is_positive_f64-2, After-is_positive_f64-3, After-is_positive_f64-4, Else-not-beta, Else-not-is_positive_f64, Else-not-is_positive_f64-level, Else-not-is_positive_f64-natural, Else-not-is_positive_f64-pilot, Start}
use Rattle.decoder_gains.proofs.common.Goals as goal

-- the definition by the outcomes of its tests
says : (pilot natural level beta rate : Float) {a b c d e f : Bool} → positive rate ≡ a
    → positive pilot && lt pilot (div binary64 rate (nearest binary64 4 1)) ≡ b
    → positive natural && le natural (div binary64 pilot (nearest binary64 100 1)) ≡ c
    → positive level && le level one ≡ d → in_range nought one beta ≡ e → all_narrow (gains_of pilot natural level beta rate) ≡ f
    → built_by (first_cause (rule 1 a ∷ rule 2 b ∷ rule 3 c ∷ rule 4 d ∷ rule 5 e ∷ rule 6 f ∷ [])) (gains_of pilot natural level beta rate) ≡ common_of pilot natural level beta rate
unfolding common_of
says pilot natural level beta rate p q r s t u = rw (p, q, r, s, t, u)

-- a test of two parts, of which the first is a call's answer
both : {x y b : Bool} (z : Bool) → x ≡ y → x && z ≡ b → y && z ≡ b
both z e h = rw (← e) h

good1 : (c : Else-not-is_positive_f64) → positive c.args.rate ≡ true
good1 c = passed_plain c.is_positive_f64.ensures c.if-not-is_positive_f64.false

abbrev s2 : After-is_positive_f64-2 → Start
s2 c = c.before.before.before

abbrev s3 : After-is_positive_f64-3 → Start
s3 c = s2 c.before.before

abbrev s4 : After-is_positive_f64-4 → Start
s4 c = s3 c.before.before

good2 : (c : Else-not-is_positive_f64-pilot) → let a = (s2 c.before).args in positive a.pilot && lt a.pilot (div binary64 a.rate (nearest binary64 4 1)) ≡ true
unfolding of_bits round
good2 c = both _ c.is_positive_f64-2.ensures c.if-not-is_positive_f64-pilot.false

good3 : (c : Else-not-is_positive_f64-natural) → let a = (s3 c.before).args in positive a.natural && le a.natural (div binary64 a.pilot (nearest binary64 100 1)) ≡ true
unfolding of_bits round
good3 c = both _ c.is_positive_f64-3.ensures c.if-not-is_positive_f64-natural.false

good4 : (c : Else-not-is_positive_f64-level) → let a = (s4 c.before).args in positive a.level && le a.level one ≡ true
unfolding of_bits
good4 c = both _ c.is_positive_f64-4.ensures c.if-not-is_positive_f64-level.false

good5 : (c : Else-not-beta) → in_range nought one (s4 c.before.before).args.beta ≡ true
unfolding of_bits
good5 c = c.if-not-beta.false

pub returns-then-not-is_positive_f64 : goal.returns-then-not-is_positive_f64
returns-then-not-is_positive_f64 c = says _ _ _ _ _ (failed_plain c.is_positive_f64.ensures c.if-not-is_positive_f64.true) refl refl refl refl refl

pub returns-then-not-is_positive_f64-pilot : goal.returns-then-not-is_positive_f64-pilot
unfolding of_bits round
returns-then-not-is_positive_f64-pilot c = says _ _ _ _ _ (good1 c.before.before) (both _ c.is_positive_f64-2.ensures c.if-not-is_positive_f64-pilot.true) refl refl refl refl

pub returns-then-not-is_positive_f64-natural : goal.returns-then-not-is_positive_f64-natural
unfolding of_bits round
returns-then-not-is_positive_f64-natural c =
    let e = c.before.before in
    says _ _ _ _ _ (good1 e.before.before) (good2 e) (both _ c.is_positive_f64-3.ensures c.if-not-is_positive_f64-natural.true) refl refl refl

pub returns-then-not-is_positive_f64-level : goal.returns-then-not-is_positive_f64-level
unfolding of_bits
returns-then-not-is_positive_f64-level c =
    let e = c.before.before in
    let f = e.before.before in
    says _ _ _ _ _ (good1 f.before.before) (good2 f) (good3 e) (both _ c.is_positive_f64-4.ensures c.if-not-is_positive_f64-level.true) refl refl

pub returns-then-not-beta : goal.returns-then-not-beta
unfolding of_bits
returns-then-not-beta c =
    let d = c.before in
    let e = d.before.before in
    let f = e.before.before in
    says _ _ _ _ _ (good1 f.before.before) (good2 f) (good3 e) (good4 d) c.if-not-beta.true refl

-- the answer of the last test, of the gains that the formulas give
narrow : (c : After-are_narrow) → let a = (s4 c.before.before.before.before).args in
    c.are_narrow.result ≡ all_narrow (gains_of a.pilot a.natural a.level a.beta a.rate)
narrow c = c.are_narrow.ensures ∙ ap all_narrow c.gains_of-g.ensures

pub returns-then-not-are_narrow : goal.returns-then-not-are_narrow
returns-then-not-are_narrow c =
    let n = c.before in
    let b = n.before.before in
    let d = b.before in
    let e = d.before.before in
    let f = e.before.before in
    says _ _ _ _ _ (good1 f.before.before) (good2 f) (good3 e) (good4 d) (good5 b) (failed_plain (narrow n) c.if-not-are_narrow.true)

pub returns : goal.returns
returns c =
    let n = c.before in
    let b = n.before.before in
    let d = b.before in
    let e = d.before.before in
    let f = e.before.before in
    rw n.gains_of-g.ensures
    (says _ _ _ _ _ (good1 f.before.before) (good2 f) (good3 e) (good4 d) (good5 b) (passed_plain (narrow n) c.if-not-are_narrow.false))
