-- Request 7's claim: when no phase correction takes the wide way, over every list of calls from a fresh f32
-- decoder. Source: document 02, request 7. Definitions only. proofs/Claims.antt proves it.
use Rattle.std.specs.Prelude.{Bool, true, false, ◌&&◌, List, [], ◌∷◌, ◌++◌, ◌≡◌, pos, Float}
use Rattle.std.specs.Float.{fin, binary32}
use Rattle.std.specs.Float.Ieee.{add, le}
use Rattle.answers.specs.Answer.{Said}
use Rattle.counted.specs.Counted.{Count, none, carried}
use Rattle.floats.specs.Floats.{in_range}
use Rattle.decoder_gains.specs.Gains.{Gains}
use Rattle.calls.specs.Events.{Event, sample, switch, clear, unit_table}
use Rattle.calls.specs.Calls.{Call, block, merged, summary, enable, disable, reset, Left, events}
use Rattle.calls.specs.Demand.{Arguments, Format, Constructed, fast_decoder, May, Runs, last_record}

-- ---- what is asked
-- kp + imax, added in f32, is at most 262144
abbrev pub most : Float
most = fin false 1 (pos 18)

abbrev pub moderate : Gains Float → Bool
moderate g = le (add binary32 g.kp g.imax) most

-- a pilot sample in -1..=1
abbrev pub unit : Float → Bool
unit p = in_range (fin true 1 (pos 0)) (fin false 1 (pos 0)) p

-- whether each pilot sample and table entry since the start or the last reset is in -1..=1; so far it is as ok says
abbrev pub unit_since : Bool → List (Event Float) → Bool
unit_since ok [] = ok
unit_since ok (sample t x p ∷ es) = unit_since (ok && (unit_table t && unit p)) es
unit_since ok (switch b ∷ es) = unit_since ok es
unit_since ok (clear ∷ es) = unit_since true es

-- ---- what is claimed: an accepted block of any sort carries the count 0; a refusal and a set call carry none
abbrev pub quiet_of : Call Float → Said → Count
quiet_of (block b) said = carried said 0
quiet_of (merged b) said = carried said 0
quiet_of (summary s b c) said = carried said 0
quiet_of enable said = none
quiet_of disable said = none
quiet_of reset said = none

-- of the functions: how the replies of the fast block and the merged one, and of the one with summaries, carry it
module _ {D R Q N S T : Type 0} (K : Format Float D R Q N S T) (in_block : Q → Count) (in_summary : T → Count) where
  -- what the reply of a call carries that was made with the record d and left l
  abbrev pub carried_by : (d : D) (c : Call Float) (l : Left Float D) → May K (fast_decoder K) d c l → Count
  carried_by d (block b) l h = in_block h.2
  carried_by d (merged b) l h = in_block h.2
  carried_by d (summary s b c) l h = in_summary h.4
  carried_by d enable l h = none
  carried_by d disable l h = none
  carried_by d reset l h = none

  pub record Quiet : Type 0 where
    -- every call, after every list of calls from a fresh decoder with such gains
    pub quiet : (a : Arguments) (d : D) → Constructed K a d → moderate (K.state d).gains ≡ true
        → (cs : List (Call Float)) (ls : List (Left Float D)) → Runs K (fast_decoder K) d cs ls
        → (c : Call Float) (l : Left Float D) (h : May K (fast_decoder K) (last_record K d ls) c l)
        → unit_since true (events K.core (K.state d) (cs ++ (c ∷ []))) ≡ true
        → carried_by (last_record K d ls) c l h ≡ quiet_of c l.said
    -- and this says something: some arguments make a decoder with such gains
    pub some : (a : Arguments) × (d : D) × Constructed K a d × (moderate (K.state d).gains ≡ true)
