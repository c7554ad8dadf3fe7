-- Request 4's claims, about what the calls themselves leave, over every list of calls. Source: document 02,
-- request 4. Definitions only. proofs/Functions.antt names the functions, proofs/Summaries.antt proves it.
use Rattle.std.specs.Prelude.{ℕ, ◌+◌, ◌<◌, Bool, true, false, cond, ◌&&◌, List, [], ◌∷◌, ◌++◌, map, ◌≡◌}
use Rattle.answers.specs.Answer.{accepts}
use Rattle.decoder_record.specs.State.{Pll, enabled_of, reset_of}
use Rattle.decoder.specs.Machine.{Arithmetic, Stepped, step_of}
use Rattle.summary_record.specs.Record.{Summary, fresh_summary, summary_fit}
use Rattle.summary_call.specs.Summary.{Columns, columns_of, Outcome, outcome_of}
use Rattle.calls.specs.Events.{Event, sample, switch, clear}
use Rattle.calls.specs.Calls.{Core, Brought, Call, block, merged, summary, enable, disable, reset, Output, signal, summaries, Left, leaving, call_of, events_of}
use Rattle.calls.specs.Periods.{finished_of, unfinished_of}
use Rattle.calls.specs.Demand.{Format, Decoder, seen, Runs, last_record, plain_decoder, fast_decoder}

-- ---- what a list of calls left
-- a call with a summary
abbrev pub summarizes : {A : Type 0} → Call A → Bool
summarizes (block b) = false
summarizes (merged b) = false
summarizes (summary s b c) = true
summarizes enable = false
summarizes disable = false
summarizes reset = false

module _ {A : Type 0} where
  -- the first and the second signal of a call's outputs, its columns, and the summary that it left, or s
  abbrev pub first_in : List (Output A) → List A
  first_in [] = []
  first_in (signal x ∷ os) = x
  first_in (summaries c s ∷ os) = first_in os

  abbrev pub second_in : List (Output A) → List A
  second_in [] = []
  second_in (signal x ∷ os) = first_in os
  second_in (summaries c s ∷ os) = second_in os

  abbrev pub columns_in : List (Output A) → Columns A
  columns_in [] = columns_of []
  columns_in (signal x ∷ os) = columns_in os
  columns_in (summaries c s ∷ os) = c

  abbrev pub summary_in : Summary A → List (Output A) → Summary A
  summary_in s [] = s
  summary_in s (signal x ∷ os) = summary_in s os
  summary_in s (summaries c next ∷ os) = next

-- sums, differences and columns of the accepted summary calls, one after the other
pub record Gathered (A : Type 0) : Type 0 where
  pub sum : List A
  pub difference : List A
  pub columns : Columns A

module _ {A : Type 0} where
  abbrev pub none : Gathered A
  none = record { sum = []; difference = []; columns = columns_of [] }

  abbrev pub outputs_of : List (Output A) → Gathered A
  outputs_of os = record { sum = first_in os; difference = second_in os; columns = columns_in os }

  abbrev pub followed : Gathered A → Gathered A → Gathered A
  followed g h =
      let a = g.columns in
      let b = h.columns in
      record {
        sum = g.sum ++ h.sum;
        difference = g.difference ++ h.difference;
        columns = record {
          stereo = a.stereo ++ b.stereo;
          mono = a.mono ++ b.mono;
          changes = a.changes ++ b.changes;
          magnitude = a.magnitude ++ b.magnitude;
        };
      }

-- a call brings the summary s, if any
abbrev pub Brings : {A : Type 0} → Summary A → Call A → Type 0
Brings s (block b) = Unit {0}
Brings s (merged b) = Unit {0}
Brings s (summary own b c) = own ≡ s
Brings s enable = Unit {0}
Brings s disable = Unit {0}
Brings s reset = Unit {0}

module _ {A X : Type 0} where
  abbrev pub gathered : List (Call A) → List (Left A X) → Gathered A
  gathered [] [] = none
  gathered [] (l ∷ ls) = none
  gathered (c ∷ cs) [] = none
  gathered (c ∷ cs) (l ∷ ls) =
      followed (cond (summarizes c && accepts l.said) (outputs_of l.outputs) none) (gathered cs ls)

  -- the last summary that a list left, s being the first
  abbrev pub last_summary : Summary A → List (Left A X) → Summary A
  last_summary s [] = s
  last_summary s (l ∷ ls) = last_summary (summary_in s l.outputs) ls

  -- each summary call brings the summary that the one before left, and the first one s
  abbrev pub HandedOn : Summary A → List (Call A) → List (Left A X) → Type 0
  HandedOn s [] [] = Unit {0}
  HandedOn s [] (l ∷ ls) = ⊥
  HandedOn s (c ∷ cs) [] = ⊥
  HandedOn s (c ∷ cs) (l ∷ ls) = Brings s c × HandedOn (summary_in s l.outputs) cs ls

-- ---- the raw history
-- what each sample of a list of events leaves
module _ {A : Type 0} (F : Arithmetic A) where
  abbrev pub steps_of : Pll A → List (Event A) → List (Stepped A)
  steps_of d [] = []
  steps_of d (sample t x p ∷ es) = let s = step_of F t d x p in s ∷ steps_of s.pll es
  steps_of d (switch b ∷ es) = steps_of (enabled_of b d) es
  steps_of d (clear ∷ es) = steps_of (reset_of F.nought d) es

  abbrev pub outcomes_of : Pll A → List (Event A) → List (Outcome A)
  outcomes_of d es = map outcome_of (steps_of d es)

-- an event, and whether a call with a summary made it
pub record Marked (A : Type 0) : Type 0 where
  pub summarized : Bool
  pub event : Event A

module _ {A : Type 0} (C : Core A) where
  -- the events of a list of calls, marked
  abbrev pub marked : Pll A → List (Call A) → List (Marked A)
  marked d [] = []
  marked d (c ∷ cs) =
      map (λ e. record { summarized = summarizes c; event = e }) (events_of C d c) ++ marked (call_of C d c).decoder cs

  -- decision and difference after each sample of the accepted summary calls
  abbrev pub raw_of : Pll A → List (Call A) → List (Outcome A)
  raw_of d [] = []
  raw_of d (c ∷ cs) =
      cond (summarizes c) (outcomes_of C.arithmetic d (events_of C d c)) [] ++ raw_of (call_of C d c).decoder cs

-- ---- the claims
module _ {A D R Q N S T : Type 0} (K : Format A D R Q N S T) where
  abbrev C : Core A
  C = K.core

  abbrev F : Arithmetic A
  F = C.arithmetic

  -- stereo and mono together are the period's samples, place by place
  abbrev pub Together : ℕ → List ℕ → List ℕ → Type 0
  Together period [] [] = Unit {0}
  Together period [] (n ∷ ns) = ⊥
  Together period (m ∷ ms) [] = ⊥
  Together period (m ∷ ms) (n ∷ ns) = (m + n ≡ period) × Together period ms ns

  -- an accepted summary call with any records: each finished period, the next summary, and sum, difference and
  -- decoder beside what a block leaves
  pub record OneCall (W : Decoder A D) (d : D) (s : Summary A) (b : Brought A) (l : Left A D) : Type 0 where
    pub whole : let c = columns_in l.outputs in Together s.counts.period c.stereo c.mono
    pub taken_again : summary_fit F C.unsigned (summary_in s l.outputs) ≡ true
    pub as_block : (k : Left A D) → W.block d b k
        → leaving l.said (first_in l.outputs) (second_in l.outputs) (K.state l.decoder) ≡ seen K k

  -- of the plain or the fast decoder
  pub record Claims (W : Decoder A D) : Type 0 where
    pub one_call : (d : D) (s : Summary A) (b : Brought A) (c : Columns A) (l : Left A D)
        → W.summary d s b c l → accepts l.said ≡ true → OneCall W d s b l
    -- from a fresh summary on, over every list of calls, from any decoder: the finished summaries and the
    -- unfinished one are those of the raw history
    pub history : (d : D) (period : ℕ) (cs : List (Call A)) (ls : List (Left A D)) → 0 < period
        → Runs K W d cs ls → HandedOn (fresh_summary F period) cs ls
        → let raw = raw_of C (K.state d) cs in
        ((gathered cs ls).columns ≡ columns_of (finished_of F period raw))
        × (last_summary (fresh_summary F period) ls ≡ unfinished_of F period raw)
    -- two lists that make the same events from the same start, the same of them in summary calls, however the
    -- samples are cut into calls
    pub cuts : (d e : D) (s : Summary A) (cs ds : List (Call A)) (ls ks : List (Left A D)) → K.state d ≡ K.state e
        → Runs K W d cs ls → HandedOn s cs ls
        → Runs K W e ds ks → HandedOn s ds ks
        → marked C (K.state d) cs ≡ marked C (K.state e) ds
        → (gathered cs ls ≡ gathered ds ks)
        × (last_summary s ls ≡ last_summary s ks)
        × (K.state (last_record K d ls) ≡ K.state (last_record K e ks))

  pub record SummaryClaims : Type 0 where
    pub plain : Claims (plain_decoder K)
    pub fast : Claims (fast_decoder K)
