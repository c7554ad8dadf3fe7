-- Lists of finite samples: a flag that is carried along, and a list in two parts. Assumes nothing.
use Prim.Native.Nat.{ℕ, ◌+◌, ◌≤◌, ◌<◌}
use mathlib.Core.Path.{◌≡◌, refl, sym, ◌∙◌}
use mathlib.Core.List.{List, [], ◌∷◌, ◌++◌}
use mathlib.Core.Bool.{Bool, ◌&&◌, and_assoc, and-true}
use native.Mathlib.Nat.{le_antisymm}
use native.Mathlib.Numerals.{add-one}
use lib.ListN.{length, drop, get_or}
use lib.Seq.{drop-cons, drop-length}
use lib.Ieee.{Float, nan}
use lib.Ieee.Scale.{finite}
use Rattle.decoder_parts.specs.Rules.{all_finite}

-- one more sample of a loop that carries a flag
pub all_next : (ps : List Float) (i : ℕ) (ok b : Bool) → i < length ps → all_finite ps ≡ ok && all_finite (drop i ps) → b ≡ finite (get_or ps i nan) → all_finite ps ≡ (ok && b) && all_finite (drop (i + 1) ps)
all_next ps i ok b h e f = rw (and_assoc ok b, add-one i, f) (e ∙ rw (drop-cons ps i nan h))

pub all_end : (ps : List Float) (i : ℕ) (ok : Bool) → i ≤ length ps → length ps ≤ i → all_finite ps ≡ ok && all_finite (drop i ps) → ok ≡ all_finite ps
all_end ps i ok g h e = sym (e ∙ rw (le_antisymm g h, drop-length ps) (and-true ok))

-- a list in two parts
pub all_append : (ps qs : List Float) → all_finite (ps ++ qs) ≡ all_finite ps && all_finite qs
all_append [] qs = refl
all_append (p ∷ ps) qs = rw (all_append ps qs) (sym (and_assoc (finite p) (all_finite ps) (all_finite qs)))
