-- Parts of flat lists that are lent one after the other, over the element type. Assumes nothing.
use Prim.Native.Nat.{ℕ, ◌+◌, ◌-◌, ◌*◌, ◌^◌, ◌≤◌, ◌<◌}
use native.Mathlib.Nat.{mul-le-mul}
use native.Mathlib.Omega.{arith}
use mathlib.Core.Path.{◌≡◌, sym, ap, ◌∙◌}
use mathlib.Core.List.{List, [], ◌∷◌, ◌++◌, append_assoc, append-nil}
use lib.ListN.{length, take, drop, get_or, length-append, length-drop, take-append-drop}
use lib.Seq.{take_at, drop_at, drop-drop, drop-append-le, length-take-le, get_or-append-add, get_or-drop}
use mir.Syntax.{w64}
use mir.Val.{Fits}
use borrow.Author.Rules.{Fits-under}
use Rattle.rack_waiting.specs.Beside.{over}
use Rattle.rack_round.specs.Flat.{joined}

module _ {A : Type 0} where
  -- what is lent past the front that is done
  pub over_drop : (u l : List A) (a : ℕ) → length u ≡ a → drop a (over u l) ≡ drop a l
  over_drop u l a e = drop_at u (drop (length u) l) a e ∙ ap (λ (n : ℕ). drop n l) e

  pub over_take : (u l : List A) (a : ℕ) → length u ≡ a → take a (over u l) ≡ u
  over_take u l a e = take_at u (drop (length u) l) a e

  pub over_get : (u l : List A) (k : ℕ) (d : A) → length u ≡ k → get_or (over u l) k d ≡ get_or l k d
  over_get u l k d e =
      let z : k ≡ length u + 0 = omega (arith, e) in
      ap (λ (n : ℕ). get_or (over u l) n d) z
      ∙ get_or-append-add u (drop (length u) l) 0 d
      ∙ get_or-drop (length u) l 0 d
      ∙ ap (λ (n : ℕ). get_or l n d) (sym z)

  -- a part of m, of which n came back as v
  front_back : (n m : ℕ) (l : List A) → n ≤ m → m ≤ length l → drop n (take m l) ++ drop m l ≡ drop n l
  front_back n m l h g =
      sym (drop-append-le n (take m l) (drop m l) (omega (arith, length-take-le m l g))) ∙ ap (drop n) (take-append-drop m l)

  module _ (u v l : List A) (a n m : ℕ) (eu : length u ≡ a) (ev : length v ≡ n) (h : n ≤ m) (g : m ≤ length (drop a l)) where
    part_long : length (over v (take m (drop a l))) ≡ m
    part_long = simp (length-append, length-drop) (omega (arith, length-take-le m (drop a l) g))

    pub more_long : length (u ++ over v (take m (drop a l))) ≡ a + m
    more_long = length-append u (over v (take m (drop a l))) ∙ (λ i. eu i + part_long i)

    pub over_lent : take a (over u l) ++ (v ++ drop n (drop a (over u l))) ≡ over (u ++ over v (take m (drop a l))) l
    over_lent =
        (λ i. over_take u l a eu i ++ (v ++ drop n (over_drop u l a eu i)))
        ∙ ap (λ (z : List A). u ++ (v ++ z)) (sym (front_back n m (drop a l) h g))
        ∙ ap (λ (z : List A). u ++ (v ++ (drop n (take m (drop a l)) ++ z))) (drop-drop m a l)
        ∙ ap (λ (z : List A). u ++ z) (sym (append_assoc v (drop n (take m (drop a l))) (drop (a + m) l)))
        ∙ sym (append_assoc u (v ++ drop n (take m (drop a l))) (drop (a + m) l))
        ∙ (λ i. (u ++ (v ++ drop (sym ev i) (take m (drop a l)))) ++ drop (sym more_long i) l)

  pub joined_more : (ls : List (List A)) (l : List A) → joined (ls ++ (l ∷ [])) ≡ joined ls ++ l
  joined_more [] l = append-nil l
  joined_more (x ∷ ls) l = ap (λ (r : List A). x ++ r) (joined_more ls l) ∙ sym (append_assoc x (joined ls) l)

-- ---- places of a rack, and of a slice
pub small : (k n : ℕ) → k < n → n ≤ 8 → k < 8
small k n h g = omega arith

pub place : {A : Type 0} (k n : ℕ) (l : List A) → k < n → n ≤ 8 → length l ≡ 8 → k < length l
place k n l h g e = omega arith

pub falls : (k n : ℕ) → k < n → n - (k + 1) < n - k
falls k n h = omega arith

pub next_fits : (k n : ℕ) → k < n → n ≤ 8 → Fits w64 (k + 1)
next_fits k n h g = Fits-under w64 (k + 1) 64 (omega arith) tt

pub end_fits : (x n : ℕ) → x ≤ n → n < 2 ^ 63 → Fits w64 x
end_fits x n h g = Fits-under w64 x (2 ^ 63) (omega arith) tt

-- the bytes before a place, of elements of s bytes
pub scaled : (s k n : ℕ) → s ≤ 128 → k < n → n ≤ 8 → Fits w64 (k * s)
scaled s k n e h g = Fits-under w64 (k * s) 2048 (under (k * s) (mul-le-mul (below k n h g) e)) tt
  where
    below : (k n : ℕ) → k < n → n ≤ 8 → k ≤ 8
    below k n h g = omega arith

    under : (x : ℕ) → x ≤ 8 * 128 → x < 2048
    under x h = omega arith
