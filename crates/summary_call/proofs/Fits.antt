-- One sample more keeps a summary that 20 does not refuse. Over the format. Assumes nothing.
use Prim.Native.Nat.{ℕ, ◌+◌, ◌<◌}
use mathlib.Core.Path.{◌≡◌, refl}
use mathlib.Core.Bool.{Bool, true, false, cond}
use mathlib.Core.List.{[], ◌∷◌, ◌++◌}
use native.Mathlib.Omega.{arith}
use borrow.Author.Tests.{ltb-true, ltb-false, eqb-false}
use lib.Dec.{ltb}
use Rattle.decoder.specs.Machine.{Arithmetic}
use Rattle.summary_counts.specs.Counts.{held_of, counted_of, full_of, emptied}
use Rattle.summary_counts.proofs.Fits.{one_more, change_more}
use Rattle.summary_record.specs.Record.{Summary}
use Rattle.summary_record.proofs.Fits.{Unsigned, Fitted}
use Rattle.summary_call.specs.Summary.{Outcome, figures_of, Running, noted, next_of}

module _ {A : Type 0} (F : Arithmetic A) (unsigned : A → Bool) (p : Unsigned F unsigned) where
  -- one sample more, before its period is closed, and after
  closed_fit : (s : Summary A) (o : Outcome A) → Fitted F unsigned s → (t : Bool) → full_of (noted F s o).counts ≡ t
      → let n = noted F s o in Fitted F unsigned (cond t (record { counts = emptied n.counts; magnitude = F.nought }) n)
  closed_fit s o w true e = record {
    counted = record { below = omega (arith, w.counted.below); few = omega arith };
    magnitude = p.origin;
    empty = λ h. p.nothing;
  }
  closed_fit s o w false e =
      let c = s.counts in
      let m = one_more c o.stereo in
      record {
        counted = record {
          below = under (held_of c) (held_of (counted_of c o.stereo)) c.period m w.counted.below (eqb-false (held_of (counted_of c o.stereo)) c.period e);
          few = omega (arith, w.counted.few, change_more c o.stereo, m);
        };
        magnitude = p.larger s.magnitude o.difference w.magnitude;
        empty = λ h. absurd (none (held_of c) (held_of (counted_of c o.stereo)) m h);
      }
    where
      under : (h n q : ℕ) → n ≡ h + 1 → h < q → (n ≡ q → ⊥) → n < q
      under h n q e l k = go (ltb n q) refl
        where
          go : (t : Bool) → ltb n q ≡ t → n < q
          go true z = ltb-true n q z
          go false z = absurd (k (omega (arith, ltb-false n q z)))

      none : (h n : ℕ) → n ≡ h + 1 → n ≡ 0 → ⊥
      none h n e z = omega arith

  pub fit_next : (r : Running A) (o : Outcome A) → Fitted F unsigned r.summary → Fitted F unsigned (next_of F r o).summary
  fit_next r o w = go (full_of (noted F r.summary o).counts) refl
    where
      by : Bool → Running A
      by t =
          let n = noted F r.summary o in
          cond t
          (record { finished = r.finished ++ (figures_of n ∷ []); summary = record { counts = emptied n.counts; magnitude = F.nought } })
          (record { finished = r.finished; summary = n })

      go : (t : Bool) → full_of (noted F r.summary o).counts ≡ t → Fitted F unsigned (by t).summary
      go true e = closed_fit r.summary o w true e
      go false e = closed_fit r.summary o w false e
