-- The ways out of a decoder's block, over the format: b is whether the record is fit, and s the answer. Assumes
-- nothing.
use mathlib.Core.Path.{◌≡◌}
use mathlib.Core.Bool.{Bool, true, false}
use mathlib.Core.List.{List, ◌∷◌}
use lib.ListN.{length}
use Rattle.answers.specs.Answer.{Said, accepted, accepts, entries, rule, first_cause}
use Rattle.answers.proofs.Causes.{both, none_yet, rule_passed}
use Rattle.decoder_record.specs.State.{Pll}
use Rattle.decoder.specs.Machine.{Arithmetic, Blocked, run_of, length_causes, block_says, block_of}
use Rattle.decoder.proofs.Loops.{turned_back, carried_out, lengths_equal}

module _ {A : Type 0} (F : Arithmetic A) (t mpx pilot sum difference : List A) (d : Pll A) where
  abbrev by_lengths : Said
  by_lengths = first_cause (length_causes (length t) (length mpx) (length pilot) (length sum) (length difference))

  -- f32 takes every record: b is `true`, and fit `refl`
  module _ {b : Bool} (fit : b ≡ F.fit d) (s : Said) (e : s ≡ first_cause (rule 0 b ∷ length_causes (length t) (length mpx) (length pilot) (length sum) (length difference))) where
    says_is : s ≡ block_says F d (length t) (length mpx) (length pilot) (length sum) (length difference)
    says_is = rw (← fit) e

    pub refused : accepts s ≡ false → record { said = s; sum = sum; difference = difference; pll = d } ≡ block_of F d t mpx pilot sum difference
    refused h = turned_back F t mpx pilot d sum difference s says_is h

    module _ (h : accepts s ≡ true) where
      causes : (accepts (rule 0 (F.fit d)) ≡ true) × (accepts by_lengths ≡ true)
      causes = both (rule 0 (F.fit d)) by_lengths (rw says_is at h)

      pub whole_table : length t ≡ entries
      whole_table = (lengths_equal (length t) (length mpx) (length pilot) (length sum) (length difference) causes.1).3

      -- what a loop asks for
      pub runs : (length pilot ≡ length mpx) × (length sum ≡ length mpx) × (length difference ≡ length mpx) × (F.fit d ≡ true)
      runs =
          let n = lengths_equal (length t) (length mpx) (length pilot) (length sum) (length difference) causes.1 in
          (n.0, n.1, n.2, rule_passed 0 (F.fit d) causes.0)

      module _ {sums differences : List A} {next : Pll A} (r : record { said = accepted; sum = sums; difference = differences; pll = next } ≡ run_of F d t mpx pilot) where
        pub ran_accepted : record { said = accepted; sum = sums; difference = differences; pll = next } ≡ block_of F d t mpx pilot sum difference
        ran_accepted = carried_out F t mpx pilot d sum difference s says_is h r

        pub ran : record { said = s; sum = sums; difference = differences; pll = next } ≡ block_of F d t mpx pilot sum difference
        ran = rw (none_yet s h) ran_accepted
