-- The claims of specs/Claims.antt. Assumes nothing.
use Prim.Native.Nat.{ℕ}
use mathlib.Core.Path.{◌≡◌, refl, sym, ap, ap₂, ◌∙◌}
use mathlib.Core.Bool.{Bool, true, false, cond}
use mathlib.Core.List.{List, [], ◌∷◌, ◌++◌, map}
use Rattle.answers.specs.Answer.{accepts}
use Rattle.rds.specs.Coding.{coded, last_of, undone, bit_in, Sent, sent_of}
use Rattle.rds.specs.Former.{plain_of, group_causes, group_of}
use Rattle.rds.specs.Claims.{Call, formed_all, went_out, plain_all, Claims}
use Rattle.rds_blocks.proofs.Remainders.{remainder}
use Rattle.rds_blocks.proofs.Checks.{offset_left, formed_offset, block_bits_lem, one_offset}
use Rattle.rds.proofs.Codes.{coded_append, undone_coded, bits_bytes}

-- the bits of one call, and the bit that it carries on, by whether it is carried out: those of the coding
module _ (carried : Bool) (plain : List Bool) (output : List ℕ) where
  abbrev left : Bool → Sent
  left b = cond b (sent_of carried plain) (record { output = output; carried = carried })

  call_bits : (b : Bool) → cond b (map bit_in (left b).output) [] ≡ coded carried (cond b plain [])
  call_bits true = bits_bytes (coded carried plain)
  call_bits false = refl

  call_last : (b : Bool) → (left b).carried ≡ last_of carried (coded carried (cond b plain []))
  call_last true = refl
  call_last false = refl

went_coded : (carried : Bool) (calls : List Call) → went_out (formed_all carried calls) ≡ coded carried (plain_all calls)
unfolding group_of
went_coded carried [] = refl
went_coded carried (c ∷ calls) =
    let b = accepts (group_causes c.words c.output) in
    let bits = cond b (plain_of c.words) [] in
    ap₂ (λ (l : List Bool) (q : Bool). l ++ went_out (formed_all q calls))
    (call_bits carried (plain_of c.words) c.output b) (call_last carried (plain_of c.words) c.output b)
    ∙ ap (λ (l : List Bool). coded carried bits ++ l) (went_coded (last_of carried (coded carried bits)) calls)
    ∙ sym (coded_append carried bits (plain_all calls))

pub claims : Claims
claims = record {
  remainder = remainder;
  offset = offset_left;
  formed = formed_offset;
  sends = block_bits_lem;
  one = one_offset;
  undoes = undone_coded;
  groups = λ carried calls. ap (undone carried) (went_coded carried calls) ∙ undone_coded carried (plain_all calls);
}
