-- The ways out of a block with summaries, over the format: fit says whether the summary is taken, b is what the
-- block itself would answer, and a the answer. Assumes nothing.
use Prim.Native.Nat.{ℕ}
use mathlib.Core.Path.{◌≡◌, sym, ap, ◌∙◌}
use mathlib.Core.Bool.{Bool, true, false, cond}
use mathlib.Core.List.{List, [], ◌∷◌}
use lib.ListN.{length}
use Rattle.answers.specs.Answer.{Said, accepts, entries, rule, output_rule}
use Rattle.answers.proofs.Causes.{AllAccept, each, both, length_is, rule_passed}
use Rattle.answers.proofs.Tests.{and_out}
use Rattle.decoder_record.specs.State.{Pll}
use Rattle.decoder.specs.Machine.{Arithmetic, block_says}
use Rattle.decoder.proofs.Loops.{lengths_equal}
use Rattle.summary_counts.specs.Counts.{ending_of, counts_fit, places_of, call_says}
use Rattle.summary_record.specs.Record.{Summary, summary_fit}
use Rattle.summary_call.specs.Summary.{Columns, Summarized, summary_says, summary_run, summary_of}

module _ {A : Type 0} (F : Arithmetic A) (unsigned : A → Bool) (d : Pll A) (s : Summary A) (t mpx pilot sum difference : List A) (c : Columns A) where
  abbrev own : Said
  own = block_says F d (length t) (length mpx) (length pilot) (length sum) (length difference)

  abbrev places : ℕ
  places = ending_of s.counts (length mpx)

  -- the causes after 20, by the block's answer and the places
  abbrev later : Said → ℕ → List Said
  later b p = b ∷ output_rule p (length c.stereo) ∷ output_rule p (length c.mono) ∷ output_rule p (length c.changes) ∷ output_rule p (length c.magnitude) ∷ []

  -- what an accepted call has
  pub record Asked : Type 0 where
    pub table : length t ≡ entries
    pub even : (length pilot ≡ length mpx) × (length sum ≡ length mpx) × (length difference ≡ length mpx)
    pub filled : (length c.stereo ≡ places) × (length c.mono ≡ places) × (length c.changes ≡ places) × (length c.magnitude ≡ places)
    pub fit_record : F.fit d ≡ true

  module _ {fit : Bool} (ef : fit ≡ summary_fit F unsigned s) {b a : Said} (eb : b ≡ own)
      (ea : a ≡ call_says fit s.counts b (length mpx) (length c.stereo) (length c.mono) (length c.changes) (length c.magnitude)) where
    pub says_is : a ≡ summary_says F unsigned s own (length mpx) c
    says_is =
        ea
        ∙ ap (λ (f : Bool). call_says f s.counts b (length mpx) (length c.stereo) (length c.mono) (length c.changes) (length c.magnitude)) ef
        ∙ ap (λ (x : Said). summary_says F unsigned s x (length mpx) c) eb

    pub turned_back : accepts a ≡ false
        → record { said = a; sum = sum; difference = difference; columns = c; pll = d; summary = s } ≡ summary_of F unsigned d s t mpx pilot sum difference c
    unfolding summary_of
    turned_back h = rw (← says_is, h)

    module _ (h : accepts a ≡ true) where
      all : AllAccept (rule 20 (summary_fit F unsigned s) ∷ later own (places_of s.counts (length mpx)))
      all = each (rule 20 (summary_fit F unsigned s) ∷ later own (places_of s.counts (length mpx))) (ap accepts (sym says_is) ∙ h)

      pub fit_summary : summary_fit F unsigned s ≡ true
      fit_summary = rule_passed 20 (summary_fit F unsigned s) all.0

      places_are : places_of s.counts (length mpx) ≡ places
      unfolding summary_fit
      places_are = rw (and_out (counts_fit s.counts) _ fit_summary).0

      -- what a loop asks for
      pub asked : Asked
      asked =
          let o = both (rule 0 (F.fit d)) _ all.1.0 in
          let own_lengths = lengths_equal (length t) (length mpx) (length pilot) (length sum) (length difference) o.1 in
          let x = all.1.1 in
          let p = places_of s.counts (length mpx) in
          record {
            table = own_lengths.3;
            even = (own_lengths.0, own_lengths.1, own_lengths.2);
            filled = (length_is 11 p (length c.stereo) x.0 ∙ places_are, length_is 11 p (length c.mono) x.1.0 ∙ places_are, length_is 11 p (length c.changes) x.1.1.0 ∙ places_are, length_is 11 p (length c.magnitude) x.1.1.1.0 ∙ places_are);
            fit_record = rule_passed 0 (F.fit d) o.0;
          }

      pub carried_out : {r : Summarized A} → r ≡ summary_run F d s t mpx pilot → r ≡ summary_of F unsigned d s t mpx pilot sum difference c
      unfolding summary_of
      carried_out e = e ∙ rw (← says_is, h)
