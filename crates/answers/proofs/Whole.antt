-- A list cut at its own length is the list; stated over the length, since cutting at 4097 is too long to
-- compute. Assumes nothing.
use Prim.Native.Nat.{ℕ}
use mathlib.Core.Path.{◌≡◌, sym, ap, ◌∙◌}
use mathlib.Core.List.{List}
use native.Mathlib.Nat.{le_of_eq}
use lib.ListN.{length, take}
use lib.Seq.{take_all}

module _ {A : Type 0} (n : ℕ) (l : List A) (e : length l ≡ n) where
  pub uncut : take n l ≡ l
  uncut = take_all n l (le_of_eq e)

  pub counted : n ≡ length (take n l)
  counted = sym (ap length uncut ∙ e)
