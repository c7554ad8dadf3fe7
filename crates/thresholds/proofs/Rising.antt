-- Functions that keep the order of floats that are not below 0: each rounds a fraction that grows with the
-- argument. Over the format. Assumes nothing.
use mathlib.Core.Path.{◌≡◌}
use Prim.Native.Nat.{ℕ, ◌*◌, ◌≤◌, ◌<◌}
use native.Mathlib.Omega.{arith}
use mathlib.Core.Bool.{true, false, not}
use lib.Dec.{T}
use lib.IntN.{ℤ}
use lib.Ieee.{Float, nan, inf, fin, Format, up, down, round, le, is_nan}
use lib.Ieee.Fits.{down_pos}
use lib.Ieee.Order.{round_mono}
use Rattle.rounding.proofs.Pattern.{round_no_nan}
use Rattle.decoder_gains.proofs.Plus.{plus, round_plus}
use Rattle.thresholds.proofs.Compare.{le_out}

-- neither has a minus sign, and x is at most y, so that neither is a NaN
abbrev pub Ordered : Float → Float → Type 0
Ordered x y = T (plus x) × T (plus y) × T (le x y)

-- such a pair is two infinities, a finite value and infinity, or two finite values
pub by_sort : (P : Float → Float → Type 0) → P (inf false) (inf false) → ((m : ℕ) (e : ℤ) → P (fin false m e) (inf false))
    → ((m : ℕ) (e : ℤ) (n : ℕ) (d : ℤ) → m * up e * down d ≤ n * up d * down e → P (fin false m e) (fin false n d))
    → (x y : Float) → Ordered x y → P x y
unfolding le
by_sort P i j k nan y (p, q, h) = absurd h
by_sort P i j k (inf true) y (p, q, h) = absurd p
by_sort P i j k (inf false) nan (p, q, h) = absurd h
by_sort P i j k (inf false) (inf true) (p, q, h) = absurd q
by_sort P i j k (inf false) (inf false) (p, q, h) = i
by_sort P i j k (inf false) (fin t n d) (p, q, h) = absurd h
by_sort P i j k (fin true m e) y (p, q, h) = absurd p
by_sort P i j k (fin false m e) nan (p, q, h) = absurd h
by_sort P i j k (fin false m e) (inf true) (p, q, h) = absurd q
by_sort P i j k (fin false m e) (inf false) (p, q, h) = j m e
by_sort P i j k (fin false m e) (fin true n d) (p, q, h) = absurd q
by_sort P i j k (fin false m e) (fin false n d) (p, q, h) =
    k m e n d (omega (arith, le_out false (m * up e * down d) false (n * up d * down e) h))

under_infinity : (x : Float) → T (plus x) → T (not (is_nan x)) → Ordered x (inf false)
unfolding le is_nan
under_infinity nan p q = absurd q
under_infinity (inf true) p q = absurd p
under_infinity (inf false) p q = (tt, tt, tt)
under_infinity (fin true m e) p q = absurd p
under_infinity (fin false m e) p q = (tt, tt, tt)

-- F keeps infinity, and makes of a finite a / c the rounded num a c / den c
pub record Rounds (f : Format) (F : Float → Float) (num : ℕ → ℕ → ℕ) (den : ℕ → ℕ) : Type 0 where
  pub infinite : F (inf false) ≡ inf false
  pub made : (m : ℕ) (e : ℤ) → F (fin false m e) ≡ round f false (num (m * up e) (down e)) (den (down e))
  pub above : (c : ℕ) → 0 < c → 0 < den c

-- two such functions, of which the first gives no larger fraction of no larger argument
pub rises : {f : Format} {F G : Float → Float} {num num' : ℕ → ℕ → ℕ} {den den' : ℕ → ℕ} → Rounds f F num den → Rounds f G num' den'
    → ((a c b d : ℕ) → 0 < c → 0 < d → a * d ≤ b * c → num a c * den' d ≤ num' b d * den c)
    → (x y : Float) → Ordered x y → Ordered (F x) (G y)
rises {f} {F} {G} r t g =
    by_sort (λ x y. Ordered (F x) (G y))
    (rw (r.infinite, t.infinite) (under_infinity (inf false) tt (unfold is_nan in tt)))
    (λ m e. rw (r.made m e, t.infinite) (under_infinity _ (round_plus f _ _) (round_no_nan f false _ _)))
    (λ m e n d h. rw (r.made m e, t.made n d) (
      round_plus f _ _,
      round_plus f _ _,
      round_mono f _ _ _ _ (r.above (down e) (down_pos e)) (t.above (down d) (down_pos d))
          (g (m * up e) (down e) (n * up d) (down d) (down_pos e) (down_pos d) h),
    ))
