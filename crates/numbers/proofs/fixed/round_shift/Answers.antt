-- `num::round_shift` meets its contract. Each lemma takes what the machine holds (Y for x, H for the half, Z
-- for the difference) with the equation that says what it is. Assumes nothing.
use Rattle.std.proofs.Common.{◌≡◌, ℕ, ◌-◌, ◌*◌, ◌%◌, ◌^◌, ◌<◌, ◌≤◌, Bool, true, false, cond, ℤ, pos, negsuc, ◌+ℤ◌, ◌-ℤ◌, neg_ℤ, sym, ◌∙◌, lt_of_le_of_lt, mod-eq_of_lt, one-mul, div-le_self, arith, lit<, to_z-of_z, w64, SFits, to_z, of_z, rules, eq-eqb, ne_eqb, le-leb}
use borrow.Author.Tests.{lt-leb}
use lib.Pow.{pow-lt}
use lib.Signed.{lt_z, shr_z, mag_shr}
use mir.Facts.{to_z_pos}
use Rattle.numbers.specs.Integers.{round_shift_of, stop64}
use Rattle.rounding.proofs.Lin.{add_law, up_neg, dn_neg, lt_yes, lt_no, lt_yes_in, lt_no_in, fit_in, fit_out}
use Rattle.numbers.proofs.fixed.round_shift.Goals.{Else-s-ge63, Else-x-half, Then-x-half}
use Rattle.numbers.proofs.fixed.round_shift.Goals as goal

abbrev MAX : ℤ
MAX = pos 9223372036854775807

half_lt : (s : ℕ) → s < 63 → 2 ^ (s - 1) < 2 ^ 63
half_lt s h = pow-lt {j = 63} (omega arith)

half_is : (s : ℕ) → s < 63 → to_z w64 ((1 * 2 ^ (s - 1)) % 2 ^ 64) ≡ pos (2 ^ (s - 1))
half_is s h =
    let l = half_lt s h in
    rw (one-mul (2 ^ (s - 1)), mod-eq_of_lt {n = 2 ^ (s - 1)} {m = 2 ^ 64} (omega arith)) (to_z_pos w64 l)

module _ (x : ℤ) (s : ℕ) (n0 : s ≡ 0 → ⊥) (n63 : s < 63) where
  mid : round_shift_of x s ≡ shr_z (stop64 (x +ℤ pos (2 ^ (s - 1)))) (2 ^ s)
  unfolding round_shift_of
  mid = rw (ne_eqb s 0 n0, lt-leb 63 s n63)

sub-fits : (h : ℕ) (H : ℤ) → H ≡ pos h → h < 2 ^ 63 → SFits w64 (MAX -ℤ H)
sub-fits h H e l =
    rw e (fit_in w64 (MAX -ℤ pos h) (omega (arith, add_law MAX (neg_ℤ (pos h)), up_neg (pos h), dn_neg (pos h))) (omega (arith, add_law MAX (neg_ℤ (pos h)), up_neg (pos h), dn_neg (pos h))))

over : (x : ℤ) (h : ℕ) → lt_z (MAX -ℤ pos h) x ≡ true → lt_z MAX (x +ℤ pos h) ≡ true
over x h p =
    lt_yes_in MAX (x +ℤ pos h) (omega (arith, add_law x (pos h), add_law MAX (neg_ℤ (pos h)), up_neg (pos h), dn_neg (pos h), lt_yes (MAX -ℤ pos h) x p))

under : (x : ℤ) (h : ℕ) → lt_z (MAX -ℤ pos h) x ≡ false → lt_z MAX (x +ℤ pos h) ≡ false
under x h p =
    lt_no_in MAX (x +ℤ pos h) (omega (arith, add_law x (pos h), add_law MAX (neg_ℤ (pos h)), up_neg (pos h), dn_neg (pos h), lt_no (MAX -ℤ pos h) x p))

add-fits : (x : ℤ) (h : ℕ) → SFits w64 x → lt_z (MAX -ℤ pos h) x ≡ false → SFits w64 (x +ℤ pos h)
add-fits x h f p =
    fit_in w64 (x +ℤ pos h)
    (omega (arith, add_law x (pos h), lt_no MAX (x +ℤ pos h) (under x h p)))
    (omega (arith, add_law x (pos h), fit_out f))

shr_fits : (z : ℤ) (m : ℕ) → SFits w64 z → SFits w64 (shr_z z m)
shr_fits z m f = record { sfits = lt_of_le_of_lt (mag_shr z m) f.sfits }

-- 63 or more: by the sign
sign_is : {x Y : ℤ} {s : ℕ} {t : Bool} → (s ≡ 0 → ⊥) → 63 ≤ s → Y ≡ x → lt_z Y (pos 0) ≡ t → cond t (negsuc 0) (pos 0) ≡ round_shift_of x s
unfolding round_shift_of
sign_is {x} {Y} {s} n0 h eY p = rw (ne_eqb s 0 n0, le-leb 63 s h, ← eY, p)

-- the test, of what the machine holds, as a test of the numbers
test : {x Y H Z : ℤ} {h : ℕ} {t : Bool} → Y ≡ x → H ≡ pos h → Z ≡ MAX -ℤ H → lt_z Z Y ≡ t → lt_z (MAX -ℤ pos h) x ≡ t
test eY eH eZ p = rw (eY, eZ, eH) at p

-- what is known at the test, Else2
abbrev S : Else-s-ge63 → ℕ
S c = c.args.s

abbrev X : Else-s-ge63 → ℤ
X c = c.args.x

abbrev eY : (c : Else-s-ge63) → to_z w64 (of_z w64 (X c)) ≡ X c
eY c = to_z-of_z c.ranges.x

abbrev eH : (c : Else-s-ge63) → to_z w64 ((1 * 2 ^ (S c - 1)) % 2 ^ 64) ≡ pos (2 ^ (S c - 1))
eH c = half_is (S c) c.if-s-ge63.false

pub overflow_sub-half-2 : goal.overflow_sub-half-2
overflow_sub-half-2 c = sub-fits _ _ (eH c) (half_lt (S c) c.if-s-ge63.false)

big : (c : Then-x-half) → lt_z MAX (X c.before +ℤ pos (2 ^ (S c.before - 1))) ≡ true
big c = over (X c.before) (2 ^ (S c.before - 1)) (test (eY c.before) (eH c.before) (to_z-of_z (overflow_sub-half-2 c.before)) c.if-x-half.true)

small : (c : Else-x-half) → lt_z (MAX -ℤ pos (2 ^ (S c.before - 1))) (X c.before) ≡ false
small c = test (eY c.before) (eH c.before) (to_z-of_z (overflow_sub-half-2 c.before)) c.if-x-half.false

pub returns-then-s-eq0 : goal.returns-then-s-eq0
unfolding round_shift_of
returns-then-s-eq0 c = to_z-of_z c.ranges.x ∙ rw (eq-eqb _ 0 c.if-s-eq0.true)

pub returns-then-x-lt0 : goal.returns-then-x-lt0
returns-then-x-lt0 c = sign_is c.if-s-eq0.false c.if-s-ge63.true (to_z-of_z c.ranges.x) c.if-x-lt0.true

pub returns-then-s-ge63 : goal.returns-then-s-ge63
returns-then-s-ge63 c = sign_is c.if-s-eq0.false c.if-s-ge63.true (to_z-of_z c.ranges.x) c.if-x-lt0.false

pub returns-then-x-half : goal.returns-then-x-half
returns-then-x-half c =
    let b = c.before in
    to_z_pos w64 (lt_of_le_of_lt (div-le_self 9223372036854775807 (2 ^ S b)) (lit< tt))
    ∙ sym (mid (X b) (S b) b.if-s-eq0.false b.if-s-ge63.false ∙ rw (big c))

pub overflow_add-result : goal.overflow_add-result
overflow_add-result c = rw (eY c.before, eH c.before) (add-fits _ _ c.ranges.x (small c))

pub returns : goal.returns
returns c =
    let b = c.before in
    let f = add-fits (X b) (2 ^ (S b - 1)) b.ranges.x (small c) in
    rw (eY b, eH b, to_z-of_z f, to_z-of_z (shr_fits (X b +ℤ pos (2 ^ (S b - 1))) (2 ^ S b) f))
    (sym (mid (X b) (S b) b.if-s-eq0.false b.if-s-ge63.false ∙ rw (under (X b) (2 ^ (S b - 1)) (small c))))
