-- A group from its four blocks: the parts of the output, and the coding that goes on from one block to the next.
-- Assumes nothing.
use Prim.Native.Nat.{ℕ}
use native.Mathlib.Omega.{arith}
use mathlib.Core.Path.{◌≡◌, sym, ap, ap₂, ◌∙◌}
use mathlib.Core.Bool.{Bool, cond}
use mathlib.Core.List.{List, [], ◌∷◌, ◌++◌, map, append-nil, append_assoc, map-append}
use lib.Dec.{eqb}
use lib.ListN.{length, take, drop, length-append, length-map, drop_of_length-le}
use lib.Seq.{take_at, drop_at, drop-drop}
use Rattle.answers.specs.Answer.{accepted, turned, lengths, first_cause, kept}
use Rattle.rds_blocks.specs.declared.blocks.Offset.{Offset}
use Rattle.rds_blocks.specs.declared.blocks.Offset.TheVariants.{A, B, D}
use Rattle.rds.specs.declared.former.RdsWords.{RdsWords}
use Rattle.rds_blocks.specs.Blocks.{block_bits}
use Rattle.rds.specs.Coding.{coded, last_of, byte_of, Sent, sent_of}
use Rattle.rds.specs.Former.{third, repeats, plain_of, bits, Formed, group_of}
use Rattle.rds_blocks.proofs.Checks.{block_length}
use Rattle.rds.proofs.Codes.{coded_append, last_append, coded_length}

-- ---- parts of a list that are written one after the other
abbrev put : ℕ → ℕ → List ℕ → List ℕ → List ℕ
put a n s v = take a s ++ (v ++ drop n (drop a s))

put_next : (a n : ℕ) (front rest v : List ℕ) → length front ≡ a → put a n (front ++ rest) v ≡ (front ++ v) ++ drop n rest
put_next a n front rest v h =
    ap₂ (λ (x y : List ℕ). x ++ (v ++ drop n y)) (take_at front rest a h) (drop_at front rest a h)
    ∙ sym (append_assoc front v (drop n rest))

module _ (s v1 v2 v3 v4 : List ℕ) (whole : length s ≡ 104) (l1 : length v1 ≡ 26) (l2 : length v2 ≡ 26) (l3 : length v3 ≡ 26) where
  four_parts : put 78 26 (put 52 26 (put 26 26 (v1 ++ drop 26 s) v2) v3) v4 ≡ v1 ++ (v2 ++ (v3 ++ v4))
  four_parts =
      ap (λ (x : List ℕ). put 78 26 (put 52 26 x v3) v4) (put_next 26 26 v1 (drop 26 s) v2 l1)
      ∙ ap (λ (x : List ℕ). put 78 26 x v4) (put_next 52 26 (v1 ++ v2) (drop 26 (drop 26 s)) v3 two)
      ∙ put_next 78 26 ((v1 ++ v2) ++ v3) (drop 26 (drop 26 (drop 26 s))) v4 three
      ∙ ap (λ (x : List ℕ). (((v1 ++ v2) ++ v3) ++ v4) ++ x) none
      ∙ append-nil (((v1 ++ v2) ++ v3) ++ v4)
      ∙ append_assoc (v1 ++ v2) v3 v4
      ∙ append_assoc v1 v2 (v3 ++ v4)
    where
      two : length (v1 ++ v2) ≡ 52
      two = length-append v1 v2 ∙ omega (arith, l1, l2)

      three : length ((v1 ++ v2) ++ v3) ≡ 78
      three = length-append (v1 ++ v2) v3 ∙ omega (arith, two, l3)

      none : drop 26 (drop 26 (drop 26 (drop 26 s))) ≡ []
      none =
          ap (λ (x : List ℕ). drop 26 (drop 26 x)) (drop-drop 26 26 s)
          ∙ ap (drop 26) (drop-drop 26 52 s)
          ∙ drop-drop 26 78 s
          ∙ drop_of_length-le s {i = 104} (omega (arith, whole))

-- ---- the coding of two lists of bits, one after the other
joined : (p q r : Bool) (xs ys : List Bool) (v u : List ℕ)
    → ◌≡◌ {A = Sent} (record { output = v; carried = q }) (sent_of p xs)
    → ◌≡◌ {A = Sent} (record { output = u; carried = r }) (sent_of q ys)
    → ◌≡◌ {A = Sent} (record { output = v ++ u; carried = r }) (sent_of p (xs ++ ys))
joined p q r xs ys v u e f = ap₂ (λ (l : List ℕ) (b : Bool). record { output = l; carried = b }) bytes end
  where
    last : q ≡ last_of p (coded p xs)
    last = ap (λ (s : Sent). s.carried) e

    bytes : v ++ u ≡ map byte_of (coded p (xs ++ ys))
    bytes =
        ap₂ ◌++◌ (ap (λ (s : Sent). s.output) e) (ap (λ (s : Sent). s.output) f ∙ ap (λ (b : Bool). map byte_of (coded b ys)) last)
        ∙ sym (map-append byte_of (coded p xs) (coded (last_of p (coded p xs)) ys))
        ∙ ap (map byte_of) (sym (coded_append p xs ys))

    end : r ≡ last_of p (coded p (xs ++ ys))
    end =
        ap (λ (s : Sent). s.carried) f
        ∙ ap (λ (b : Bool). last_of b (coded b ys)) last
        ∙ sym (last_append p (coded p xs) (coded (last_of p (coded p xs)) ys))
        ∙ ap (last_of p) (sym (coded_append p xs ys))

-- ---- the group's output, from those of its blocks
-- the block of the word w went out after the bit p as v, and q is its last output bit
abbrev BlockSent : Bool → ℕ → Offset → List ℕ → Bool → Type 0
BlockSent p w o v q = ◌≡◌ {A = Sent} (record { output = v; carried = q }) (sent_of p (block_bits w o))

output_length : (p : Bool) (w : ℕ) (o : Offset) {v : List ℕ} {q : Bool} → BlockSent p w o v q → length v ≡ 26
output_length p w o sent =
    ap (λ (t : Sent). length t.output) sent
    ∙ length-map (coded p (block_bits w o)) byte_of
    ∙ coded_length p (block_bits w o)
    ∙ block_length w o

pub group_sent : (p : Bool) (words : RdsWords) (s : List ℕ) → length s ≡ 104
    → {v1 v2 v3 v4 : List ℕ} {q1 q2 q3 q4 : Bool} {o : Offset} → o ≡ third words
    → BlockSent p words.one A v1 q1 → BlockSent q1 words.two B v2 q2
    → BlockSent q2 words.three o v3 q3 → BlockSent q3 words.four D v4 q4
    → ◌≡◌ {A = Sent} (record { output = put 78 26 (put 52 26 (put 26 26 (v1 ++ drop 26 s) v2) v3) v4; carried = q4 }) (sent_of p (plain_of words))
group_sent p words s whole {v1 = v1} {v2 = v2} {v3 = v3} {v4 = v4} {q1 = q1} {q2 = q2} {q3 = q3} {q4 = q4} {o = o} e one two three four =
    ap (λ (l : List ℕ). record { output = l; carried = q4 })
    (four_parts s v1 v2 v3 v4 whole (output_length p words.one A one) (output_length q1 words.two B two) (output_length q2 words.three o three))
    ∙ joined p q1 q4 first (second ++ (at o ++ fourth)) v1 (v2 ++ (v3 ++ v4)) one
    (joined q1 q2 q4 second (at o ++ fourth) v2 (v3 ++ v4) two
    (joined q2 q3 q4 (at o) fourth v3 v4 three four))
    ∙ ap (λ (x : Offset). sent_of p (first ++ (second ++ (at x ++ fourth)))) e
  where
    first : List Bool
    first = block_bits words.one A

    second : List Bool
    second = block_bits words.two B

    at : Offset → List Bool
    at x = block_bits words.three x

    fourth : List Bool
    fourth = block_bits words.four D

-- ---- the call, by what its two tests give
module _ (carried : Bool) (words : RdsWords) (output : List ℕ) where
  abbrev pub chosen : Bool → Bool → Formed
  chosen long repeated =
      let said = first_cause (cond long accepted (lengths 11 bits (length output)) ∷ cond repeated accepted (turned 19) ∷ []) in
      record {
        said = said;
        sent = kept said (sent_of carried (plain_of words)) (record { output = output; carried = carried });
      }

  pub group_is : {long repeated : Bool} → long ≡ eqb (length output) bits → repeated ≡ repeats words → chosen long repeated ≡ group_of carried words output
  unfolding group_of
  group_is e f = ap₂ chosen e f
