-- Differential coding: in parts, undone, and a loop that writes it. Assumes nothing.
use Prim.Native.Nat.{ℕ, zero, suc, ◌-◌, ◌<◌, ◌≤◌}
use native.Mathlib.Omega.{arith}
use mathlib.Core.Path.{◌≡◌, refl, sym, ap, ap₂, subst, ◌∙◌}
use mathlib.Core.Bool.{Bool, true, false, not, beq}
use mathlib.Core.List.{List, [], ◌∷◌, ◌++◌, map, append-nil}
use lib.ListN.{length, take, set, length-set}
use lib.Seq.{take-suc-set, take_all, append_snoc}
use Rattle.rds_blocks.specs.Division.{bit}
use Rattle.rds_blocks.specs.Blocks.{bits_of}
use Rattle.rds.specs.Coding.{differs, coded, last_of, undone, byte_of, bit_in, Sent, sent_of}

-- ---- as the code compares two bits
unlike : (a b : Bool) → not (beq a b) ≡ differs a b
unlike true true = refl
unlike true false = refl
unlike false true = refl
unlike false false = refl

pub unlike_is : (a : Bool) {b c : Bool} → b ≡ c → not (beq a b) ≡ differs a c
unlike_is a {b} e = unlike a b ∙ ap (differs a) e

-- ---- in parts
pub coded_append : (p : Bool) (xs ys : List Bool) → coded p (xs ++ ys) ≡ coded p xs ++ coded (last_of p (coded p xs)) ys
coded_append p [] ys = refl
coded_append p (x ∷ xs) ys = ap (λ (l : List Bool). differs p x ∷ l) (coded_append (differs p x) xs ys)

pub last_append : (p : Bool) (xs ys : List Bool) → last_of p (xs ++ ys) ≡ last_of (last_of p xs) ys
last_append p [] ys = refl
last_append p (x ∷ xs) ys = last_append x xs ys

pub coded_length : (p : Bool) (xs : List Bool) → length (coded p xs) ≡ length xs
coded_length p [] = refl
coded_length p (x ∷ xs) = ap suc (coded_length (differs p x) xs)

-- ---- undone
differs_twice : (p b : Bool) → differs p (differs p b) ≡ b
differs_twice true true = refl
differs_twice true false = refl
differs_twice false b = refl

pub undone_coded : (p : Bool) (xs : List Bool) → undone p (coded p xs) ≡ xs
undone_coded p [] = refl
undone_coded p (x ∷ xs) = ap₂ ◌∷◌ (differs_twice p x) (undone_coded (differs p x) xs)

-- a byte gives back its bit
bit_byte : (b : Bool) → bit_in (byte_of b) ≡ b
bit_byte true = refl
bit_byte false = refl

pub bits_bytes : (xs : List Bool) → map bit_in (map byte_of xs) ≡ xs
bits_bytes [] = refl
bits_bytes (x ∷ xs) = ap₂ ◌∷◌ (bit_byte x) (bits_bytes xs)

-- ---- a number's first bit, and its last
bits_first : (n x : ℕ) → 0 < n → bits_of n x ≡ bit (n - 1) x ∷ bits_of (n - 1) x
unfolding bits_of
bits_first zero x h = elim h [ ]
bits_first (suc n) x h = let e : suc n - 1 ≡ n = omega arith in rw e

bits_none : (n x : ℕ) → n ≤ 0 → bits_of n x ≡ []
unfolding bits_of
bits_none n x h = let e : n ≡ 0 = omega arith in rw e

-- ---- a loop that writes a number's bits: n of its m bits are left, and p is the last output bit
pub record Sending (previous : Bool) (m x n : ℕ) (p : Bool) (out : List ℕ) : Type 0 where
  pub some : n ≤ m
  pub size : length out ≡ m
  pub done : take (m - n) out ++ map byte_of (coded p (bits_of n x)) ≡ map byte_of (coded previous (bits_of m x))
  pub last : last_of p (coded p (bits_of n x)) ≡ last_of previous (coded previous (bits_of m x))

module _ {previous : Bool} {m x : ℕ} where
  pub sending_start : {out : List ℕ} → length out ≡ m → Sending previous m x m previous out
  sending_start {out} h = record {
    some = omega arith;
    size = h;
    done = let e : m - m ≡ 0 = omega arith in rw e;
    last = refl;
  }

  written : {n : ℕ} {p q : Bool} {v : ℕ} {out : List ℕ} → Sending previous m x n p out → 0 < n
      → q ≡ differs p (bit (n - 1) x) → v ≡ byte_of q → Sending previous m x (n - 1) q (set out (m - n) v)
  written {n} {p} {q} {v} {out} w h e f = record {
    some = omega (arith, w.some);
    size = length-set out (m - n) v ∙ w.size;
    done =
        ap (λ (j : ℕ). take j (set out (m - n) v) ++ map byte_of (coded q (bits_of (n - 1) x))) one_more
        ∙ ap (λ (l : List ℕ). l ++ map byte_of (coded q (bits_of (n - 1) x))) (take-suc-set out (m - n) v (omega (arith, w.some, w.size)))
        ∙ append_snoc (take (m - n) out) v (map byte_of (coded q (bits_of (n - 1) x)))
        ∙ ap (λ (l : List ℕ). take (m - n) out ++ l) (ap (λ (b : ℕ). b ∷ map byte_of (coded q (bits_of (n - 1) x))) f ∙ ap (map byte_of) now_coded)
        ∙ w.done;
    last = ap (last_of p) now_coded ∙ w.last;
  }
    where
      one_more : m - (n - 1) ≡ suc (m - n)
      one_more = omega (arith, w.some)

      -- the bit that was written, and the coding of those that are left
      now_coded : q ∷ coded q (bits_of (n - 1) x) ≡ coded p (bits_of n x)
      now_coded = ap (λ (b : Bool). b ∷ coded b (bits_of (n - 1) x)) e ∙ ap (coded p) (sym (bits_first n x h))

  pub sending_next : {n i : ℕ} {p q : Bool} {v : ℕ} {out : List ℕ} → Sending previous m x n p out → 0 < n → i ≡ m - n
      → q ≡ differs p (bit (n - 1) x) → v ≡ byte_of q → Sending previous m x (n - 1) q (set out i v)
  sending_next {n} {i} {p} {q} {v} {out} w h at e f =
      subst (λ (j : ℕ). Sending previous m x (n - 1) q (set out j v)) (sym at) (written w h e f)

  pub sending_end : {n : ℕ} {p : Bool} {out : List ℕ} → Sending previous m x n p out → n ≤ 0
      → ◌≡◌ {A = Sent} (record { output = out; carried = p }) (sent_of previous (bits_of m x))
  sending_end {n} {p} {out} w h =
      ap₂ (λ (l : List ℕ) (b : Bool). record { output = l; carried = b })
      (sym (all n (omega arith)) ∙ w.done)
      (ap (λ (l : List Bool). last_of p (coded p l)) (sym (bits_none n x h)) ∙ w.last)
    where
      all : (k : ℕ) → k ≡ 0 → take (m - k) out ++ map byte_of (coded p (bits_of k x)) ≡ out
      all k e =
          ap (λ (l : List Bool). take (m - k) out ++ map byte_of (coded p l)) (bits_none k x (omega arith))
          ∙ append-nil (take (m - k) out)
          ∙ take_all (m - k) out (omega (arith, w.size))
