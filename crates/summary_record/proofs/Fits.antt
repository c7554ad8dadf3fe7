-- A summary that 20 does not refuse: what that says of it. Over the format. Assumes nothing.
use Prim.Native.Nat.{ℕ, ◌<◌, ◌≤◌}
use mathlib.Core.Path.{◌≡◌, refl, ap}
use mathlib.Core.Bool.{Bool, true, false, not, cond, ◌&&◌, ◌||◌, true≢false, false≢true}
use native.Mathlib.Omega.{arith}
use borrow.Author.Tests.{ltb-true, ltb-false, eqb-true, eqb-false, lt-ltb, le-ltb}
use lib.Dec.{eqb, ltb}
use Rattle.answers.proofs.Tests.{and_out}
use Rattle.decoder.specs.Machine.{Arithmetic}
use Rattle.summary_counts.specs.Counts.{held_of, counts_fit}
use Rattle.summary_counts.proofs.Fits.{Counted, counts_out, counts_in}
use Rattle.summary_record.specs.Record.{Summary, larger_of, summary_fit}

-- a magnitude above 0 where nothing is held, as the code tests it
pub none_held : (n : ℕ) (b : Bool) → not (eqb n 0 && b) ≡ ltb 0 n || not b
none_held n b = go (eqb n 0) refl
  where
    go : (t : Bool) → eqb n 0 ≡ t → not (t && b) ≡ ltb 0 n || not b
    go true e = rw (le-ltb 0 n (omega (arith, eqb-true n 0 e)))
    go false e = rw (lt-ltb 0 n (above n (eqb-false n 0 e)))
      where
        above : (n : ℕ) → (n ≡ 0 → ⊥) → 0 < n
        above n k = by (ltb 0 n) refl
          where
            by : (t : Bool) → ltb 0 n ≡ t → 0 < n
            by true z = ltb-true 0 n z
            by false z = absurd (k (omega (arith, ltb-false 0 n z)))

-- ---- over the format
module _ {A : Type 0} (F : Arithmetic A) (unsigned : A → Bool) where
  -- what a format shows of its magnitudes
  pub record Unsigned : Type 0 where
    pub origin : unsigned F.nought ≡ true
    pub nothing : F.under F.nought F.nought ≡ false
    pub larger : (m y : A) → unsigned m ≡ true → unsigned (larger_of F m y) ≡ true

  -- it is enough that what is above a unsigned magnitude is unsigned
  pub unsigned_by : unsigned F.nought ≡ true → F.under F.nought F.nought ≡ false
      → ((m y : A) → unsigned m ≡ true → F.under m y ≡ true → unsigned y ≡ true) → Unsigned
  unsigned_by o n above = record { origin = o; nothing = n; larger = λ m y h. one (cond (F.under m y) y m) (F.minus y) (one m y h) }
    where
      one : (m y : A) → unsigned m ≡ true → unsigned (cond (F.under m y) y m) ≡ true
      one m y h = go (F.under m y) refl
        where
          go : (t : Bool) → F.under m y ≡ t → unsigned (cond t y m) ≡ true
          go true e = above m y h e
          go false e = h

  pub record Fitted (s : Summary A) : Type 0 where
    pub counted : Counted s.counts
    pub magnitude : unsigned s.magnitude ≡ true
    pub empty : held_of s.counts ≡ 0 → F.under F.nought s.magnitude ≡ false

  pub fitted : (s : Summary A) → summary_fit F unsigned s ≡ true → Fitted s
  unfolding summary_fit
  fitted s h =
      let a = and_out (counts_fit s.counts) _ h in
      let b = and_out (unsigned s.magnitude) _ a.1 in
      record {
        counted = counts_out s.counts a.0;
        magnitude = b.0;
        empty = λ e. go (ltb 0 (held_of s.counts)) (le-ltb 0 (held_of s.counts) (omega arith)) (F.under F.nought s.magnitude) b.1;
      }
    where
      go : (t : Bool) → t ≡ false → (u : Bool) → t || not u ≡ true → u ≡ false
      go true e u k = absurd (true≢false e)
      go false e true k = absurd (false≢true k)
      go false e false k = refl

  pub fit_in : (s : Summary A) → Fitted s → summary_fit F unsigned s ≡ true
  unfolding summary_fit
  fit_in s w = rw (counts_in s.counts w.counted, w.magnitude) (go (ltb 0 (held_of s.counts)) refl)
    where
      go : (t : Bool) → ltb 0 (held_of s.counts) ≡ t → t || not (F.under F.nought s.magnitude) ≡ true
      go true e = refl
      go false e = ap not (w.empty (zero_held (held_of s.counts) (ltb-false 0 (held_of s.counts) e)))
        where
          zero_held : (n : ℕ) → n ≤ 0 → n ≡ 0
          zero_held n h = omega arith
