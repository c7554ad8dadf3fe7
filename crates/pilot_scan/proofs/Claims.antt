-- What specs/Scan.antt claims of the count. Assumes nothing.
use Prim.Native.Nat.{suc, ◌+◌}
use mathlib.Core.Path.{◌≡◌, refl, sym, ◌∙◌, ap}
use mathlib.Core.List.{List, [], ◌∷◌, ◌++◌, reverse, reverse-cons, reverse-append, append_assoc, append-nil}
use mathlib.Core.Bool.{Bool, true, false, ◌&&◌, and-true, false≢true}
use native.Mathlib.Nat.{add-zero, zero-add, suc-add}
use native.Mathlib.Numerals.{add-one}
use lib.ListN.{length, length-reverse}
use lib.Ieee.{Float}
use lib.Ieee.Scale.{finite}
use Rattle.answers.proofs.Tests.{and_out}
use Rattle.decoder_parts.specs.Rules.{all_finite}
use Rattle.pilot_scan.specs.declared.Scanned.{Scanned}
use Rattle.pilot_scan.specs.Scan.{read_of, scan_of, Last, Claims}
use Rattle.pilot_scan.proofs.Finite.{all_append}

-- finite samples are finite in the other order too
all_reverse : (ps : List Float) → all_finite ps ≡ true → all_finite (reverse ps) ≡ true
all_reverse [] h = refl
all_reverse (p ∷ ps) h =
    let parts = and_out (finite p) (all_finite ps) h in
    rw (reverse-cons p ps, all_append (reverse ps) (p ∷ []), all_reverse ps parts.1, parts.0) refl

-- finite samples are all read, and then what follows them
read_on : (ps qs : List Float) → all_finite ps ≡ true → read_of (ps ++ qs) ≡ length ps + read_of qs
read_on [] qs h = sym (zero-add (read_of qs))
read_on (p ∷ ps) qs h =
    let parts = and_out (finite p) (all_finite ps) h in
    rw (parts.0, suc-add (length ps) (read_of qs)) (ap suc (read_on ps qs parts.1))

-- the same samples from the last to the first
turned_round : (before : List Float) (p : Float) (after : List Float) → reverse (before ++ (p ∷ after)) ≡ reverse after ++ (p ∷ reverse before)
turned_round before p after = rw (reverse-append before (p ∷ after), reverse-cons p after) (append_assoc (reverse after) (p ∷ []) (reverse before))

pub from_last : (pilot : List Float) (l : Last pilot) → (scan_of pilot).read ≡ length (l.sample ∷ l.after)
unfolding scan_of
from_last pilot l =
    ap (λ (ps : List Float). read_of (reverse ps)) l.place
    ∙ ap read_of (turned_round l.before l.sample l.after)
    ∙ read_on (reverse l.after) (l.sample ∷ reverse l.before) (all_reverse l.after l.rest_finite)
    ∙ rw (l.not_finite, length-reverse l.after) (add-one (length l.after))

pub all : (pilot : List Float) → all_finite pilot ≡ true → (scan_of pilot).read ≡ length pilot
unfolding scan_of
all pilot h =
    ap read_of (sym (append-nil (reverse pilot)))
    ∙ read_on (reverse pilot) [] (all_reverse pilot h)
    ∙ add-zero (length (reverse pilot))
    ∙ length-reverse pilot

-- the last of a list whose rest has one, or whose first sample is one
last_by : (p : Float) (ps : List Float) (rest : Bool) → rest ≡ all_finite ps → finite p && rest ≡ false → (rest ≡ false → Last ps) → Last (p ∷ ps)
last_by p ps true e h later = record { before = []; sample = p; after = ps; place = refl; not_finite = sym (and-true (finite p)) ∙ h; rest_finite = sym e }
last_by p ps false e h later =
    let l = later refl in
    record { before = p ∷ l.before; sample = l.sample; after = l.after; place = ap (λ (r : List Float). p ∷ r) l.place; not_finite = l.not_finite; rest_finite = l.rest_finite }

last : (pilot : List Float) → all_finite pilot ≡ false → Last pilot
last [] h = absurd (false≢true (sym h))
last (p ∷ ps) h = last_by p ps (all_finite ps) refl h (last ps)

empty : scan_of [] ≡ record { finite = true; read = 0 }
unfolding scan_of
empty = refl

pub claims : Claims
claims = record { from_last = from_last; all = all; last = last; empty = empty }

-- ---- what a caller of the scan takes from a yes
pub told : (pilot : List Float) (r : Scanned) → r ≡ scan_of pilot → r.finite ≡ true → all_finite pilot ≡ true
unfolding scan_of
told pilot r e h = sym (ap (λ (s : Scanned). s.finite) e) ∙ h
