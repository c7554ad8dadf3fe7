-- The three loops over a rack's places. Assumes nothing.
use Prim.Native.Nat.{ℕ, zero, suc, ◌+◌, ◌-◌, ◌≤◌, ◌<◌, min}
use native.Mathlib.Numerals.{add-one}
use native.Mathlib.Omega.{arith}
use mathlib.Core.Path.{◌≡◌, refl, sym, ap, ◌∙◌}
use mathlib.Core.Bool.{true, false}
use mathlib.Core.List.{List, [], ◌∷◌, ◌++◌, map, map-append, append_assoc, append-nil}
use lib.ListN.{length, take, drop, get_or, set, replicate, length-map, drop_of_length-le}
use lib.Seq.{take-suc, take-suc-set, drop-cons, length-take-le, take_all}
use Rattle.answers.specs.Answer.{Said, accepted, accepts, or_else, first_cause}
use Rattle.answers.proofs.Causes.{stays, none_yet}
use Rattle.rack_waiting.specs.declared.Waiting.{Waiting}
use Rattle.rack_waiting.specs.Beside.{beside, over}
use Rattle.rack_waiting.specs.Waiting.{part_of, rest_of, parts_of}
use Rattle.rack_waiting.proofs.Beside.{beside_next, take_cut, over_set}

-- ---- the parts
pub parts_next : (k : ℕ) (ws cut : List Waiting) (left rest part w : Waiting) → k < length ws → k < length cut
    → part ≡ part_of (get_or ws k w) left → rest ≡ rest_of (get_or ws k w) left
    → take (k + 1) (set cut k part) ++ parts_of (drop (k + 1) ws) rest ≡ take k cut ++ parts_of (drop k ws) left
unfolding parts_of
parts_next k ws cut left rest part w hw hc ep er =
    ap (λ (l : List Waiting). l ++ parts_of (drop (k + 1) ws) rest) (ap (λ (n : ℕ). take n (set cut k part)) (add-one k) ∙ take-suc-set cut k part hc)
    ∙ append_assoc (take k cut) (part ∷ []) (parts_of (drop (k + 1) ws) rest)
    ∙ ap (λ (l : List Waiting). take k cut ++ l) (sym here)
  where
    here : parts_of (drop k ws) left ≡ part ∷ parts_of (drop (k + 1) ws) rest
    here = ap (λ (l : List Waiting). parts_of l left) (drop-cons ws k w hw) ∙ rw (← ep, ← er, add-one k)

pub parts_end : (k : ℕ) (ws cut : List Waiting) (left : Waiting) → 8 ≤ k → length ws ≡ 8 → length cut ≡ 8 → cut ≡ take k cut ++ parts_of (drop k ws) left
unfolding parts_of
parts_end k ws cut left h ew ec =
    sym (append-nil cut) ∙ ap (λ (l : List Waiting). l ++ []) (sym (take_all k cut (omega arith)))
    ∙ ap (λ (l : List Waiting). take k cut ++ parts_of l left) (sym (drop_of_length-le ws {i = k} (omega arith)))

-- ---- the earliest refusal
module _ {A B : Type 0} (cause : A → B → Said) (n k : ℕ) (xs : List A) (ys : List B) (x : A) (y : B) (s : Said)
    (hn : k < n) (hx : k < length xs) (hy : k < length ys) (e : s ≡ cause (get_or xs k x) (get_or ys k y)) where
  abbrev left : ℕ → Said
  left j = first_cause (beside cause (n - j) (drop j xs) (drop j ys))

  here : left k ≡ or_else s (left (k + 1))
  here = ap first_cause (beside_next cause n k xs ys x y hn hx hy) ∙ ap (λ (t : Said). or_else t (left (k + 1))) (sym e)

  pub stopped : accepts s ≡ false → left k ≡ s
  stopped h = here ∙ sym (stays s (left (k + 1)) h)

  pub passed : accepts s ≡ true → left (k + 1) ≡ left k
  passed h = sym (here ∙ ap (λ (t : Said). or_else t (left (k + 1))) (none_yet s h))

pub none_left : {A B : Type 0} (cause : A → B → Said) (n k : ℕ) (xs : List A) (ys : List B) → n ≤ k → first_cause (beside cause (n - k) xs ys) ≡ accepted
unfolding beside
none_left cause n k xs ys h = let e : n - k ≡ 0 = omega arith in rw e

-- ---- the counts
pub over_next : {A B : Type 0} (f : A → B) (k : ℕ) (xs : List A) (l : List B) (x : A) (v : B) → k < length xs → k < length l → v ≡ f (get_or xs k x)
    → set (over (map f (take k xs)) l) k v ≡ over (map f (take (k + 1) xs)) l
over_next {A} {B} f k xs l x v hx hl e =
    over_set (map f (take k xs)) l v k (length-map (take k xs) f ∙ length-take-le k xs (omega arith)) hl
    ∙ ap (λ (u : List B). over u l) (ap (λ (w : B). map f (take k xs) ++ (w ∷ [])) e ∙ sym (map-append f (take k xs) (get_or xs k x ∷ [])) ∙ ap (map f) (sym (ap (λ (n : ℕ). take n xs) (add-one k) ∙ take-suc xs k x hx)))

pub cut_off : {A : Type 0} (number n k : ℕ) (xs : List A) → n ≡ min number (length xs) → k ≤ n → n ≤ k → take k xs ≡ take number xs
cut_off {A} number n k xs e h g = ap (λ (m : ℕ). take m xs) (let q : k ≡ n = omega arith in q ∙ e) ∙ sym (take_cut number xs)

-- the same at each place
pub constant : {A B : Type 0} (v : B) (n : ℕ) (l : List A) → length l ≡ n → replicate n v ≡ map (λ (x : A). v) l
constant {A} {B} v n l e = ap (λ (m : ℕ). replicate m v) (sym e) ∙ all l
  where
    all : (l : List A) → replicate (length l) v ≡ map (λ (x : A). v) l
    all [] = refl
    all (x ∷ l) = ap (λ (r : List B). v ∷ r) (all l)

-- ---- a loop that works out f at each place
pub mapped_next : {A B : Type 0} (f : A → B) (k : ℕ) (xs : List A) (l : List B) (x : A) (v : B) → k < length xs → k < length l
    → take k l ≡ map f (take k xs) → v ≡ f (get_or xs k x) → take (k + 1) (set l k v) ≡ map f (take (k + 1) xs)
mapped_next {A} {B} f k xs l x v hx hl h e =
    ap (λ (n : ℕ). take n (set l k v)) (add-one k) ∙ take-suc-set l k v hl
    ∙ (λ j. h j ++ (e j ∷ []))
    ∙ sym (ap (map f) (ap (λ (n : ℕ). take n xs) (add-one k) ∙ take-suc xs k x hx) ∙ map-append f (take k xs) (get_or xs k x ∷ []))

pub mapped_end : {A B : Type 0} (f : A → B) (n k : ℕ) (xs : List A) (l : List B) → length xs ≡ n → length l ≡ n → n ≤ k
    → take k l ≡ map f (take k xs) → l ≡ map f xs
mapped_end f n k xs l ex el h e = sym (take_all k l (omega arith)) ∙ e ∙ ap (map f) (take_all k xs (omega arith))

pub map_set : {A B : Type 0} (f : A → B) (l : List A) (i : ℕ) (v : A) → map f (set l i v) ≡ set (map f l) i (f v)
map_set f [] i v = refl
map_set f (x ∷ xs) zero v = refl
map_set {B = B} f (x ∷ xs) (suc i) v = ap (λ (t : List B). f x ∷ t) (map_set f xs i v)

-- .. and g is what the loop's elements stand for
pub converted_next : {A B C : Type 0} (f : A → B) (g : C → B) (k : ℕ) (xs : List A) (l : List C) (x : A) (v : C) → k < length xs → k < length l
    → take k (map g l) ≡ map f (take k xs) → g v ≡ f (get_or xs k x) → take (k + 1) (map g (set l k v)) ≡ map f (take (k + 1) xs)
converted_next {B = B} f g k xs l x v hx hl h e =
    ap (take (k + 1)) (map_set g l k v) ∙ mapped_next f k xs (map g l) x (g v) hx (omega (arith, length-map l g)) h e
