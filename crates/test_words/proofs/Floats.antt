-- When a float and its pattern may be turned into each other, and what stands for a NaN. Assumes nothing.
use mathlib.Core.Path.{◌≡◌, refl, sym, ◌∙◌, ap, subst}
use mathlib.Core.Bool.{Bool, true, not}
use Prim.Native.Nat.{ℕ, ◌+◌, ◌*◌, ◌/◌, ◌%◌, ◌≤◌, ◌<◌}
use borrow.Author.Tests.{le-ltb, lt-ltb}
use lib.Dec.{T}
use lib.Ieee.{Float, nan, inf, fin, Format, binary32, binary64, hid, ones, top, div, is_nan, ne, nan_bits, of_bits, to_bits}
use lib.Ieee.Bits.{nan_bits_above, nan_bits_is}
use lib.Ieee.Compare.{differs_from_itself}

-- a pattern that is not above the infinity's, without its sign, is no NaN's
pub not_nan_bits : (f : Format) (n : ℕ) → n % top f ≤ ones f * hid f → T (not (nan_bits f n))
not_nan_bits f n h = subst (λ (t : Bool). T (not t)) (sym (nan_bits_above f n ∙ le-ltb (ones f * hid f) (n % top f) h)) tt

nan_only : (x : Float) → T (is_nan x) → x ≡ nan
unfolding is_nan
nan_only nan h = refl
nan_only (inf s) h = absurd h
nan_only (fin s m e) h = absurd h

zero_by_zero : (f : Format) → div f (of_bits f 0) (of_bits f 0) ≡ nan
unfolding div of_bits
zero_by_zero binary32 = refl
zero_by_zero binary64 = refl

-- any other is
pub nan_bits_lem : (f : Format) (n : ℕ) → ones f * hid f < n % top f → div f (of_bits f 0) (of_bits f 0) ≡ of_bits f n
nan_bits_lem f n h =
    zero_by_zero f
    ∙ sym (nan_only (of_bits f n) (subst (λ (t : Bool). T t) (sym (lt-ltb (ones f * hid f) (n % top f) h) ∙ sym (nan_bits_above f n) ∙ nan_bits_is f n) tt))

-- the one pattern of what differs from itself
pub nan_word : (f : Format) (x : Float) → ne x x ≡ true → ones f * hid f + hid f / 2 ≡ to_bits f x
unfolding to_bits
nan_word f x e = ap (λ (y : Float). to_bits f y) (sym (differs_from_itself x (subst (λ (t : Bool). T t) (sym e) tt)))
