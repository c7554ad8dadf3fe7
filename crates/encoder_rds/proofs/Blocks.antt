-- An accepted block with RDS: its lengths, and that the block without RDS is accepted too, with what that one
-- leaves. Assumes nothing.
use Rattle.std.proofs.Common.{◌≡◌, ℕ, true, List, [], ◌∷◌, length, get_or, ap, ◌∙◌}
use mathlib.Core.Bool.{false≢true}
use lib.Ieee.{Float, nan}
use Rattle.answers.specs.Answer.{Said, accepted, turned, lengths, accepts, entries, or_else, first_cause, table_rule, input_rule, output_rule}
use Rattle.answers.specs.Samples.{samples}
use Rattle.answers.proofs.Causes.{each, both, length_is}
use Rattle.encoder_record.specs.Encode.{encode_at}
use Rattle.encoder_record.specs.declared.encode.StereoEncode.{StereoEncode}
use Rattle.encoder.specs.Multiplex.{multiplex_of, phase_at, encode_says, encode_of, Encoded}
use Rattle.encoder_rds.specs.MultiplexRds.{encode_rds_says}

-- n is the length of left, and the others those of table, right, the RDS baseband and output
pub encode_rds_lengths : (t n r b o : ℕ) → accepts (encode_rds_says t n r b o) ≡ true → (t ≡ entries) × (r ≡ n) × (b ≡ n) × (o ≡ n)
encode_rds_lengths t n r b o h =
    let x = each (table_rule t ∷ input_rule n r ∷ input_rule n b ∷ output_rule n o ∷ []) h in
    (length_is 9 entries t x.0, length_is 10 n r x.1.0, length_is 10 n b x.1.1.0, length_is 11 n o x.1.1.1.0)

-- causes behind a first one: where the one chain is accepted, the other is
behind : (s t u : Said) → (accepts t ≡ true → accepts u ≡ true) → accepts (or_else s t) ≡ true → accepts (or_else s u) ≡ true
behind accepted t u f h = f h
behind (turned n) t u f h = absurd (false≢true h)
behind (lengths n x y) t u f h = absurd (false≢true h)

pub without_rds : (t n r b o : ℕ) → accepts (encode_rds_says t n r b o) ≡ true → accepts (encode_says t n r o) ≡ true
without_rds t n r b o h =
    let rest = first_cause (output_rule n o ∷ []) in
    let more = or_else (input_rule n b) rest in
    behind (table_rule t) (or_else (input_rule n r) more) (or_else (input_rule n r) rest)
    (behind (input_rule n r) more rest (λ k. (both (input_rule n b) rest k).1))
    h

-- what the block without RDS leaves where it is accepted
pub encode_ran : (e : StereoEncode) (table left right output : List Float) {x : Encoded StereoEncode}
    → accepts (encode_says (length table) (length left) (length right) (length output)) ≡ true
    → x ≡ encode_of e table left right output
    → (x.output ≡ samples (length left) (λ i. multiplex_of table e.main e.pilot (phase_at e i) (get_or left i nan) (get_or right i nan)))
    × (x.encoder ≡ encode_at e (phase_at e (length left)))
encode_ran e table left right output h q = (ap (λ y. y.output) q ∙ rw h, ap (λ y. y.encoder) q ∙ rw h)
