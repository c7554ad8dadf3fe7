-- Answers: the first cause in force, what an accepted answer tells, and what a construction or a set call
-- gives by its causes. Assumes nothing.
use Prim.Native.Nat.{ℕ, ◌<◌}
use mathlib.Core.Path.{◌≡◌, refl, sym, ap, ◌∙◌}
use mathlib.Core.Bool.{Bool, true, false, cond, ◌&&◌, true≢false, false≢true}
use mathlib.Core.List.{List, [], ◌∷◌, ◌++◌}
use native.Mathlib.Omega.{arith}
use borrow.Author.Tests.{eqb-true, ltb-true}
use lib.Dec.{eqb, ltb}
use Rattle.answers.proofs.Tests.{and_out}
use Rattle.answers.specs.declared.answer.Refusal.{Refusal}
use Rattle.answers.specs.declared.answer.Refusal.TheVariants.{Table, Input, Output}
use Rattle.std.proofs.Common.{Result, Ok, Err}
use Rattle.std.specs.Result.{is_err}
use Rattle.answers.specs.Answer.{says_refusal, says, says_changed, Said, accepted, turned, lengths, accepts, rule, length_rule, or_else, first_cause, Built, made, refused, built_by, map_built, Changed, changed, unchanged, changed_by}

-- an earlier cause stays, and where there is none the next rule decides
pub stays : (s t : Said) → accepts s ≡ false → s ≡ or_else s t
stays accepted t h = absurd (true≢false h)
stays (turned n) t h = refl
stays (lengths n a b) t h = refl

pub none_yet : (s : Said) → accepts s ≡ true → s ≡ accepted
none_yet accepted h = refl
none_yet (turned n) h = absurd (false≢true h)
none_yet (lengths n a b) h = absurd (false≢true h)

-- a refusal is no accepted answer, and stays
pub refuses : (refusal : Refusal) → accepts (says_refusal refusal) ≡ false
refuses (Table found) = refl
refuses (Input first found) = refl
refuses (Output first found) = refl
refuses refusal = refl

-- .. by the test of an answer, b
module _ {b : Bool} where
  pub refused_by : (r : Result (Unit {0}) Refusal) → b ≡ is_err r → b ≡ true → accepts (says r) ≡ false
  refused_by (Ok done) e h = absurd (false≢true (sym e ∙ h))
  refused_by (Err refusal) e h = refuses refusal

  pub accepted_by : (r : Result (Unit {0}) Refusal) → b ≡ is_err r → b ≡ false → accepts (says r) ≡ true
  accepted_by (Ok done) e h = refl
  accepted_by (Err refusal) e h = absurd (true≢false (sym e ∙ h))

pub refusal_stays : (refusal : Refusal) (s t : Said) → says_refusal refusal ≡ s → says_refusal refusal ≡ or_else s t
refusal_stays refusal s t e = e ∙ stays s t (ap accepts (sym e) ∙ refuses refusal)

-- rules one after the other, as the code tries them
abbrev pub chained : Said → List Said → Said
chained s [] = s
chained s (cause ∷ causes) = chained (or_else s cause) causes

pub or_none : (s : Said) → s ≡ or_else s accepted
or_none accepted = refl
or_none (turned n) = refl
or_none (lengths n a b) = refl

or_assoc : (s t u : Said) → or_else (or_else s t) u ≡ or_else s (or_else t u)
or_assoc accepted t u = refl
or_assoc (turned n) t u = refl
or_assoc (lengths n a b) t u = refl

pub chained_is : (s : Said) (causes : List Said) → chained s causes ≡ first_cause (s ∷ causes)
chained_is s [] = or_none s
chained_is s (cause ∷ causes) = chained_is (or_else s cause) causes ∙ or_assoc s cause (first_cause causes)

pub first_append : (xs ys : List Said) → first_cause (xs ++ ys) ≡ or_else (first_cause xs) (first_cause ys)
first_append [] ys = refl
first_append (x ∷ xs) ys = ap (or_else x) (first_append xs ys) ∙ sym (or_assoc x (first_cause xs) (first_cause ys))

-- ---- what an accepted answer tells
pub both : (s t : Said) → accepts (or_else s t) ≡ true → (accepts s ≡ true) × (accepts t ≡ true)
both accepted t h = (refl, h)
both (turned n) t h = absurd (false≢true h)
both (lengths n a b) t h = absurd (false≢true h)

abbrev pub AllAccept : List Said → Type 0
AllAccept [] = Unit {0}
AllAccept (cause ∷ causes) = (accepts cause ≡ true) × AllAccept causes

pub each : (causes : List Said) → accepts (first_cause causes) ≡ true → AllAccept causes
each [] h = tt
each (cause ∷ causes) h = let x = both cause (first_cause causes) h in (x.0, each causes x.1)

pub rule_passed : (n : ℕ) (b : Bool) → accepts (rule n b) ≡ true → b ≡ true
rule_passed n true h = refl
rule_passed n false h = absurd (false≢true h)

pub length_is : (n wanted found : ℕ) → accepts (length_rule n wanted found) ≡ true → found ≡ wanted
length_is n wanted found h = go (eqb found wanted) refl h
  where
    go : (t : Bool) → eqb found wanted ≡ t → accepts (cond t accepted (lengths n wanted found)) ≡ true → found ≡ wanted
    go true e h = eqb-true found wanted e
    go false e h = absurd (false≢true h)

-- ---- what a construction or a set call gives
abbrev pub change_by : {A B : Type 0} → (A → B) → B → Built A → Changed B
change_by f old (made a) = changed (f a)
change_by f old (refused n) = unchanged n old

-- a construction, or a set call, from another one's answer by the same causes
pub map_built_lem : {A B : Type 0} (f : A → B) (s : Said) (a : A) → map_built f (built_by s a) ≡ built_by s (f a)
map_built_lem f accepted a = refl
map_built_lem f (turned n) a = refl
map_built_lem f (lengths n x y) a = refl

pub change_built : {A B : Type 0} (f : A → B) (old : B) (s : Said) (a : A) → change_by f old (built_by s a) ≡ changed_by s (f a) old
change_built f old accepted a = refl
change_built f old (turned n) a = refl
change_built f old (lengths n x y) a = refl

-- a set call on a part of a record, from the set call on the part: a refused one gives the old record
abbrev pub map_changed : {A B : Type 0} → (A → B) → B → Changed A → Changed B
map_changed f old (changed a) = changed (f a)
map_changed f old (unchanged n a) = unchanged n old

pub map_changed_lem : {A B : Type 0} (f : A → B) (b : B) (s : Said) (new old : A) → map_changed f b (changed_by s new old) ≡ changed_by s (f new) b
map_changed_lem f b accepted new old = refl
map_changed_lem f b (turned n) new old = refl
map_changed_lem f b (lengths n x y) new old = refl

-- the same, where the record is taken over on both sides, as it is after a call that is lent it
abbrev pub map_either : {A B : Type 0} → (A → B) → Changed A → Changed B
map_either f (changed a) = changed (f a)
map_either f (unchanged n a) = unchanged n (f a)

pub map_either_lem : {A B : Type 0} (f : A → B) (s : Said) (new old : A) → map_either f (changed_by s new old) ≡ changed_by s (f new) (f old)
map_either_lem f accepted new old = refl
map_either_lem f (turned n) new old = refl
map_either_lem f (lengths n x y) new old = refl

pub map_says_changed : {A B : Type 0} (f : A → B) (r : Result (Unit {0}) Refusal) (now : A) → map_either f (says_changed r now) ≡ says_changed r (f now)
map_says_changed f (Ok done) now = refl
map_says_changed f (Err refusal) now = refl

-- what was made: no cause is in force, and it is what the definition has
pub made_same : {A : Type 0} {a b : A} → made a ≡ made b → a ≡ b
made_same h = cc

pub not_made : {A : Type 0} {a : A} {n : ℕ} → refused n ≡ made a → ⊥
not_made h = let z : ◌≡◌ {A = ℕ} 0 1 = cc in omega arith

refused_same : {A : Type 0} {m n : ℕ} → ◌≡◌ {A = Built A} (refused m) (refused n) → m ≡ n
refused_same h = cc

pub built_out : {A : Type 0} (s : Said) (a : A) {b : A} → built_by s a ≡ made b → (accepts s ≡ true) × (a ≡ b)
built_out accepted a h = (refl, made_same h)
built_out (turned n) a h = absurd (not_made h)
built_out (lengths n x y) a h = absurd (not_made h)

-- what was refused stays refused, whatever cause comes after and whatever is to be made
pub refused_stays : {A B : Type 0} (s t : Said) (a : A) (b : B) {n : ℕ} → built_by s a ≡ refused n → built_by (or_else s t) b ≡ refused n
refused_stays accepted t a b h = absurd (not_made (sym h))
refused_stays (turned n) t a b h = rw (refused_same h)
refused_stays (lengths n x y) t a b h = rw (refused_same h)

-- ---- the number of a refusal is below k, where the numbers of its causes are
not_changed : {A : Type 0} {a b : A} {n : ℕ} → unchanged n a ≡ changed b → ⊥
not_changed h = let z : ◌≡◌ {A = ℕ} 0 1 = cc in omega arith

unchanged_same : {A : Type 0} {a b : A} {m n : ℕ} → unchanged m a ≡ unchanged n b → m ≡ n
unchanged_same h = cc

module _ (k : ℕ) where
  pub below : Said → Bool
  below accepted = true
  below (turned n) = ltb n k
  below (lengths n wanted found) = ltb n k

  abbrev pub all_below : List Said → Bool
  all_below [] = true
  all_below (cause ∷ causes) = below cause && all_below causes

  pub rule_below : (n : ℕ) (good : Bool) → ltb n k ≡ true → below (rule n good) ≡ true
  unfolding below
  rule_below n true h = refl
  rule_below n false h = h

  pub first_below : (causes : List Said) → all_below causes ≡ true → below (first_cause causes) ≡ true
  unfolding below
  first_below [] h = refl
  first_below (accepted ∷ causes) h = first_below causes h
  first_below (turned n ∷ causes) h = (and_out _ _ h).0
  first_below (lengths n wanted found ∷ causes) h = (and_out _ _ h).0

  pub refused_below : {A : Type 0} {n : ℕ} (s : Said) (a : A) → below s ≡ true → refused n ≡ built_by s a → n < k
  unfolding below
  refused_below accepted a h e = absurd (not_made e)
  refused_below (turned m) a h e = rw (refused_same e) (ltb-true m k h)
  refused_below (lengths m wanted found) a h e = rw (refused_same e) (ltb-true m k h)

  pub unchanged_below : {A : Type 0} {n : ℕ} {was : A} (s : Said) (new old : A) → below s ≡ true → unchanged n was ≡ changed_by s new old → n < k
  unfolding below
  unchanged_below accepted new old h e = absurd (not_changed e)
  unchanged_below (turned m) new old h e = rw (unchanged_same e) (ltb-true m k h)
  unchanged_below (lengths m wanted found) new old h e = rw (unchanged_same e) (ltb-true m k h)
