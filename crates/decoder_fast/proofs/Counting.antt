-- A decoder's loop that counts the wide corrections, and its block, over the format and its rule of what is wide.
-- Assumes nothing.
use Prim.Native.Nat.{ℕ, zero, suc, ◌+◌, ◌*◌, ◌^◌, ◌≤◌, ◌<◌}
use native.Mathlib.Numerals.{add-one}
use native.Mathlib.Omega.{arith}
use mathlib.Core.Path.{◌≡◌, refl, sym, ap, ◌∙◌}
use mathlib.Core.Bool.{Bool, true, false, cond, true≢false}
use mathlib.Core.List.{List, ◌∷◌}
use lib.ListN.{length, get_or, set}
use mir.Syntax.{w64}
use mir.Val.{Fits, bool_byte}
use Rattle.answers.specs.Answer.{Said, accepted, turned, lengths, accepts, rule, first_cause}
use Rattle.counted.specs.Counted.{none, count, carried}
use Rattle.decoder_record.specs.State.{Pll}
use Rattle.decoder.specs.Machine.{Arithmetic, step_of, state_at, run_of, length_causes}
use Rattle.decoder.proofs.Loops.{Going, going_start, going_next, going_end}
use Rattle.decoder_fast.specs.Wide.{wide_at, wide_up_to, count_of, block_count}

-- ---- what an answer carries
pub carries_none : (s : Said) (n : ℕ) → accepts s ≡ false → none ≡ carried s n
carries_none accepted n h = absurd (true≢false h)
carries_none (turned k) n h = refl
carries_none (lengths k x y) n h = refl

pub carries : (s : Said) {w n : ℕ} → accepts s ≡ true → w ≡ n → count w ≡ carried s n
carries accepted h e = ap count e
carries (turned k) h e = absurd (true≢false (sym h))
carries (lengths k x y) h e = absurd (true≢false (sym h))

-- a yes or no that is added as a number
pub told : (w : ℕ) (b : Bool) {c : Bool} → b ≡ c → w + bool_byte b ≡ w + cond c 1 0
told w b e = ap (λ (n : ℕ). w + n) (byte b) ∙ ap (λ (c : Bool). w + cond c 1 0) e
  where
    byte : (b : Bool) → bool_byte b ≡ cond b 1 0
    byte true = refl
    byte false = refl

module _ {A : Type 0} (F : Arithmetic A) (wide : A → Bool) (t mpx pilot : List A) (d : Pll A) where
  abbrev up_to : ℕ → ℕ
  up_to = wide_up_to F wide t mpx pilot d

  pub wide_start : 0 ≡ up_to 0
  unfolding wide_up_to
  wide_start = refl

  -- no more than there are samples
  pub few : (i : ℕ) → up_to i ≤ i
  unfolding wide_up_to
  few zero = omega arith
  few (suc i) = go (wide_at F wide t (state_at F t mpx pilot d i) (get_or pilot i F.nought)) (few i)
    where
      go : (b : Bool) {n : ℕ} → n ≤ i → n + cond b 1 0 ≤ suc i
      go true h = omega arith
      go false h = omega arith

  -- .. so that one more fits: a slice takes fewer than 2^63 bytes
  pub fits_next : (i : ℕ) {w n : ℕ} (b : Bool) → w ≡ up_to i → i < n → n * 4 < 2 ^ 63 → Fits w64 (w + bool_byte b)
  fits_next i true e h k = omega (arith, few i)
  fits_next i false e h k = omega (arith, few i)

  pub room_next : (i : ℕ) {w n : ℕ} → w ≡ up_to i → i < n → n * 4 < 2 ^ 63 → w < 2 ^ 63
  room_next i e h k = omega (arith, few i)

  -- one more sample: n is the count with its correction
  pub wide_next : (i : ℕ) {w n : ℕ} {st : Pll A} {p : A} → w ≡ up_to i → st ≡ state_at F t mpx pilot d i → p ≡ get_or pilot i F.nought
      → n ≡ w + cond (wide_at F wide t st p) 1 0 → n ≡ up_to (i + 1)
  unfolding wide_up_to
  wide_next i e es ep en = rw (add-one i) (en ∙ (λ j. e j + cond (wide_at F wide t (es j) (ep j)) 1 0))

  pub wide_end : (i : ℕ) {w : ℕ} → w ≡ up_to i → i ≤ length mpx → length mpx ≤ i → w ≡ up_to (length mpx)
  wide_end i e h k = let l : i ≡ length mpx = omega arith in e ∙ ap up_to l

  -- the first i samples are done, and w of them took the wide way
  pub record Counting (i w : ℕ) (sum difference : List A) (st : Pll A) : Type 0 where
    pub going : Going F t mpx pilot d i sum difference st
    pub wides : w ≡ up_to i

  pub counting_start : {sum difference : List A} → length sum ≡ length mpx → length difference ≡ length mpx → Counting 0 0 sum difference d
  counting_start h k = record { going = going_start F t mpx pilot d h k; wides = wide_start }

  pub counting_next : {i w n : ℕ} {sum difference : List A} {st st' : Pll A} {x p y : A} → Counting i w sum difference st → i < length mpx
      → x ≡ get_or mpx i F.nought → p ≡ get_or pilot i F.nought → record { sum = x; difference = y; pll = st' } ≡ step_of F t st x p
      → n ≡ w + cond (wide_at F wide t st p) 1 0 → Counting (i + 1) n (set sum i x) (set difference i y) st'
  counting_next {i} c h ex ep e en = record {
    going = going_next F t mpx pilot d c.going h ex ep e;
    wides = wide_next i c.wides c.going.state ep en;
  }

  pub counting_end : {i w : ℕ} {sum difference : List A} {st : Pll A} → Counting i w sum difference st → length mpx ≤ i
      → (record { said = accepted; sum = sum; difference = difference; pll = st } ≡ run_of F d t mpx pilot) × (w ≡ up_to (length mpx))
  counting_end {i} c h = (going_end F t mpx pilot d c.going h, wide_end i c.wides c.going.below h)

  -- what a block's answer carries, by the lengths; b is whether the record is fit
  pub block_count_lem : (sum difference : List A) {b : Bool} → b ≡ F.fit d → (s : Said)
      → s ≡ first_cause (rule 0 b ∷ length_causes (length t) (length mpx) (length pilot) (length sum) (length difference))
      → count_of F wide s d t mpx pilot ≡ block_count F wide d t mpx pilot sum difference
  unfolding block_count
  block_count_lem sum difference fit s e =
      ap (λ (z : Said). count_of F wide z d t mpx pilot) (e ∙ ap (λ (b : Bool). first_cause (rule 0 b ∷ length_causes (length t) (length mpx) (length pilot) (length sum) (length difference))) fit)
