-- What waits for the decoders of a rack, by its lengths: the answer of a round, and what each decoder takes.
-- Source: document 02, request 6. Definitions only.
use Rattle.std.specs.Prelude.{ℕ, ◌-◌, min, Bool, ◌&&◌, List, [], ◌∷◌, map, leb, take}
use Rattle.answers.specs.Answer.{Said, rule, first_cause}
use Rattle.decoder.specs.Machine.{length_causes}
use Rattle.rack_waiting.specs.Beside.{beside, over}
use Rattle.rack_waiting.specs.declared.Waiting.{Waiting}

-- one decoder's causes: 0, then 9, 10 and 11
abbrev pub cause_of : ℕ → Bool → Waiting → Said
cause_of table fit w = first_cause (rule 0 fit ∷ length_causes table w.mpx w.pilot w.sum w.difference)

-- a round's: 21, 22, then those of the first decoder, of the second, and so on; whether each record is fit, and
-- what waits for it
abbrev pub round_says : ℕ → ℕ → ℕ → List Bool → List Waiting → Said
round_says number allowance table fits ws =
    first_cause (rule 21 (leb 2 number && leb number 8) ∷ rule 22 (leb number allowance) ∷ beside (cause_of table) number fits ws)

-- a decoder takes its share, or what waits, if less
abbrev pub takes_of : ℕ → Waiting → ℕ
takes_of share w = min share w.mpx

-- .. each of the first decoders; those past the number take none
abbrev pub taken_of : ℕ → ℕ → List Waiting → List ℕ
taken_of number share ws = over (map (takes_of share) (take number ws)) (map (λ w. 0) ws)

-- ---- parts of flat lists: each begins where the one before ends, and one that would pass the end is cut off there
abbrev pub part_of : Waiting → Waiting → Waiting
part_of w left = record {
  mpx = min w.mpx left.mpx;
  pilot = min w.pilot left.pilot;
  sum = min w.sum left.sum;
  difference = min w.difference left.difference;
}

abbrev pub rest_of : Waiting → Waiting → Waiting
rest_of w left = record {
  mpx = left.mpx - w.mpx;
  pilot = left.pilot - w.pilot;
  sum = left.sum - w.sum;
  difference = left.difference - w.difference;
}

unfoldable pub parts_of : List Waiting → Waiting → List Waiting
parts_of [] left = []
parts_of (w ∷ ws) left = part_of w left ∷ parts_of ws (rest_of w left)
