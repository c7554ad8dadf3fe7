-- The group former: four words become 104 bits. Source: document 02, request 2; IEC 62106. Definitions only.
use Rattle.std.specs.Prelude.{ℕ, Bool, true, false, cond, List, [], ◌∷◌, ◌++◌, eqb, length}
use Rattle.answers.specs.Answer.{Said, rule, output_rule, first_cause, kept}
use Rattle.rds_blocks.specs.declared.blocks.Offset.{Offset}
use Rattle.rds_blocks.specs.declared.blocks.Offset.TheVariants.{A, B, C, CPrime, D}
use Rattle.rds.specs.declared.former.RdsWords.{RdsWords}
use Rattle.rds_blocks.specs.Division.{bit}
use Rattle.rds_blocks.specs.Blocks.{block_bits}
use Rattle.rds.specs.Coding.{Sent, sent_of}

-- bit 11 of word two, the standard's version B: block three takes C', and has to send word one again
abbrev pub version_b : RdsWords → Bool
version_b words = bit 11 words.two

abbrev pub third : RdsWords → Offset
third words = cond (version_b words) CPrime C

abbrev pub repeats : RdsWords → Bool
repeats words = cond (version_b words) (eqb words.three words.one) true

-- the bits of a group before they are coded
abbrev pub plain_of : RdsWords → List Bool
plain_of words =
    block_bits words.one A ++ (block_bits words.two B ++ (block_bits words.three (third words) ++ block_bits words.four D))

-- ---- the call
-- the bit before a fresh former's first
abbrev pub fresh : Bool
fresh = false

abbrev pub bits : ℕ
bits = 104

abbrev pub group_causes : RdsWords → List ℕ → Said
group_causes words output = first_cause (output_rule bits (length output) ∷ rule 19 (repeats words) ∷ [])

-- what it answers and leaves: the output, and the output bit that is carried to the next group
pub record Formed : Type 0 where
  pub said : Said
  pub sent : Sent

unfoldable pub group_of : Bool → RdsWords → List ℕ → Formed
group_of carried words output =
    let said = group_causes words output in
    record {
      said = said;
      sent = kept said (sent_of carried (plain_of words)) (record { output = output; carried = carried });
    }
