-- `test_words::words::is_i16` meets its contract: a word of an i16 is below 2^15, or at most 2^15 below 2^64.
-- Assumes nothing.
use Prim.Native.Nat.{ℕ, ◌%◌, ◌^◌, ◌<◌, ◌≤◌}
use mathlib.Core.Path.{◌≡◌, refl, sym}
use mathlib.Core.Bool.{Bool, true, false}
use native.Mathlib.Omega.{arith}
use borrow.Author.Tests.{eq-eqb, ne_eqb, leb-true, leb-false, ltb-true, ltb-false}
use lib.Dec.{leb, ltb}
use Rattle.test_words.specs.Words.{word_of, signed_of, is_signed}
use Rattle.test_words.proofs.Signed.{word_low, word_high}
use Rattle.test_words.proofs.words.is_i16.Goals as goal

pub returns-then-w-lt32768 : goal.returns-then-w-lt32768
returns-then-w-lt32768 c = let w = c.args.w in sym (eq-eqb _ w (omega (arith, word_low 16 w (omega arith))))

above : (w : ℕ) → 32768 ≤ w → w < 2 ^ 64 → (t : Bool) → leb 18446744073709518848 w ≡ t → t ≡ is_signed 16 w
above w h f true e = let g = leb-true 18446744073709518848 w e in sym (eq-eqb _ w (omega (arith, word_high 16 w (omega arith))))
above w h f false e = sym (ne_eqb _ w (go (leb-false 18446744073709518848 w e) (ltb (w % 65536) 32768) refl))
  where
    go : w < 18446744073709518848 → (t : Bool) → ltb (w % 65536) 32768 ≡ t → word_of (signed_of 16 w) ≡ w → ⊥
    go g true p q = let l = ltb-true (w % 65536) 32768 p in omega (arith, word_low 16 w l)
    go g false p q = let l = ltb-false (w % 65536) 32768 p in omega (arith, word_high 16 w l)

pub returns : goal.returns
returns c = let w = c.args.w in above w (omega arith) (omega arith) (leb 18446744073709518848 w) refl
