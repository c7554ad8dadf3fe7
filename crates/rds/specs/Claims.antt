-- What is claimed of checks, blocks and groups; proofs/Claims.antt proves it. Source: document 02, requests 2
-- and 13. Definitions only.
use Rattle.std.specs.Prelude.{ℕ, ◌^◌, ◌<◌, Bool, List, [], ◌∷◌, ◌++◌, map, ◌≡◌}
use Rattle.answers.specs.Answer.{kept}
use Rattle.rds_blocks.specs.declared.blocks.Offset.{Offset}
use Rattle.rds.specs.declared.former.RdsWords.{RdsWords}
use Rattle.rds_blocks.specs.Division.{remainder_of, Remainder}
use Rattle.rds_blocks.specs.Blocks.{word_of, block_of, bits_of, block_bits, offset_in}
use Rattle.rds.specs.Coding.{coded, undone, bit_in}
use Rattle.rds.specs.Former.{plain_of, group_causes, Formed, group_of}

-- ---- groups one after the other
-- a call of the former: the words, and the output as it is before
pub record Call : Type 0 where
  pub words : RdsWords
  pub output : List ℕ

-- what a list of calls leaves, each made with the bit that the call before carried on
abbrev pub formed_all : Bool → List Call → List Formed
formed_all carried [] = []
formed_all carried (c ∷ calls) =
    let f = group_of carried c.words c.output in
    f ∷ formed_all f.sent.carried calls

-- the bits that went out, in order; a refused call has none
abbrev pub went_out : List Formed → List Bool
went_out [] = []
went_out (f ∷ formed) = kept f.said (map bit_in f.sent.output) [] ++ went_out formed

-- the bits of the groups that were carried out, before they were coded
abbrev pub plain_all : List Call → List Bool
plain_all [] = []
plain_all (c ∷ calls) = kept (group_causes c.words c.output) (plain_of c.words) [] ++ plain_all calls

-- ---- the claims
pub record Claims : Type 0 where
  -- the division leaves the remainder, and no other number is one
  pub remainder : (x : ℕ) → x < 2 ^ 32 → Remainder x (remainder_of x)
  -- of a block it leaves the offset word that the block's check bits hold
  pub offset : (x : ℕ) → x < 2 ^ 26 → remainder_of x ≡ offset_in x
  -- a formed block holds its own offset word, and sends its bits
  pub formed : (w : ℕ) (o : Offset) → w < 2 ^ 16 → offset_in (block_of w o) ≡ word_of o
  pub sends : (w : ℕ) (o : Offset) → w < 2 ^ 16 → bits_of 26 (block_of w o) ≡ block_bits w o
  -- the offset words differ, so a block holds at most one of them
  pub one : (a b : Offset) → word_of a ≡ word_of b → a ≡ b
  -- the coding is undone from the bit that stood before it
  pub undoes : (previous : Bool) (bits : List Bool) → undone previous (coded previous bits) ≡ bits
  -- .. also over a list of calls, refused ones among them
  pub groups : (carried : Bool) (calls : List Call) → undone carried (went_out (formed_all carried calls)) ≡ plain_all calls
