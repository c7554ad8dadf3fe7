-- The loops of the scan: a place from which on every sample is finite, and what the scan tells where they end.
-- Assumes nothing.
use Prim.Native.Nat.{ℕ, zero, suc, ◌-◌, ◌≤◌, ◌<◌}
use mathlib.Core.Path.{◌≡◌, refl, sym, ◌∙◌, ap, subst}
use mathlib.Core.List.{List, [], ◌∷◌, ◌++◌}
use mathlib.Core.Bool.{Bool, true, false, and-false}
use native.Mathlib.Nat.{le_refl, le_trans, add-sub_of_le, not-suc-le-zero}
use native.Mathlib.Omega.{arith}
use lib.ListN.{length, take, drop, get_or, take-append-drop, length-drop}
use lib.Seq.{drop-cons, drop-length, drop-drop, split_at}
use lib.Ieee.{Float, nan}
use lib.Ieee.Scale.{finite}
use Rattle.decoder_parts.specs.Rules.{all_finite}
use Rattle.pilot_scan.specs.Scan.{scan_of, Last}
use Rattle.pilot_scan.proofs.Finite.{all_append}
use Rattle.pilot_scan.proofs.Claims.{from_last, all}

abbrev pub FiniteFrom : List Float → ℕ → Type 0
FiniteFrom ps i = (i ≤ length ps) × (all_finite (drop i ps) ≡ true)

pub from_end : (ps : List Float) → FiniteFrom ps (length ps)
from_end ps = (le_refl (length ps), ap all_finite (drop-length ps))

-- from start on, if what stands between is finite too
pub from_start : (ps : List Float) (start end : ℕ) → start ≤ end → FiniteFrom ps end → all_finite (take (end - start) (drop start ps)) ≡ true → FiniteFrom ps start
from_start ps start end l f h =
    let n = end - start in
    (le_trans l f.0, ap all_finite (sym (take-append-drop n (drop start ps))) ∙ all_append (take n (drop start ps)) (drop n (drop start ps)) ∙ rw (h, drop-drop n start ps, add-sub_of_le l) f.1)

-- a place above 0 comes after the one before it
after : (i : ℕ) → 0 < i → suc (i - 1) ≡ i
after i l = omega arith

from_after : (ps : List Float) (i : ℕ) → 0 < i → FiniteFrom ps i → FiniteFrom ps (suc (i - 1))
from_after ps i l f = subst (λ (k : ℕ). FiniteFrom ps k) (sym (after i l)) f

-- from the sample before on, if it is finite too
pub from_before : (ps : List Float) (i : ℕ) → 0 < i → FiniteFrom ps i → finite (get_or ps (i - 1) nan) ≡ true → FiniteFrom ps (i - 1)
from_before ps i l f h =
    let g = from_after ps i l f in
    (omega (arith, g.0), rw (drop-cons ps (i - 1) nan g.0, h) g.1)

-- ---- what the scan tells where its loop ends
-- a pilot with such a sample is not all finite
not_all : (before : List Float) (p : Float) (after : List Float) → finite p ≡ false → all_finite (before ++ (p ∷ after)) ≡ false
not_all [] p after h = rw h refl
not_all (b ∷ before) p after h = rw (not_all before p after h) (and-false (finite b))

scan_is : (pilot : List Float) (b : Bool) (count : ℕ) → all_finite pilot ≡ b → (scan_of pilot).read ≡ count → record { finite = b; read = count } ≡ scan_of pilot
unfolding scan_of
scan_is pilot b count e r = rw (e, r) refl

-- at a sample that is not finite, where every later one is
pub leaves : (pilot : List Float) (i : ℕ) → 0 < i → FiniteFrom pilot i → finite (get_or pilot (i - 1) nan) ≡ false → record { finite = false; read = length pilot - (i - 1) } ≡ scan_of pilot
leaves pilot i l f h =
    let k = i - 1 in
    let p = get_or pilot k nan in
    let g = from_after pilot i l f in
    let place = split_at pilot k nan g.0 in
    let found : Last pilot = record { before = take k pilot; sample = p; after = drop (suc k) pilot; place = place; not_finite = h; rest_finite = g.1 } in
    let left = length-drop (suc k) pilot ∙ ap (λ (n : ℕ). length pilot - n) (after i l) in
    let one_more : suc (length pilot - i) ≡ length pilot - k = omega (arith, f.0) in
    scan_is pilot false (length pilot - k) (ap all_finite place ∙ not_all (take k pilot) p (drop (suc k) pilot) h) (from_last pilot found ∙ ap suc left ∙ one_more)

-- with no sample left
pub ends : (pilot : List Float) (i : ℕ) → i ≤ 0 → FiniteFrom pilot i → record { finite = true; read = length pilot } ≡ scan_of pilot
ends pilot zero l f = scan_is pilot true (length pilot) f.1 (all pilot f.1)
ends pilot (suc i) l f = absurd (not-suc-le-zero l)
