-- What calls do to a decoder, as events: a sample, or a call that sets fields; the state after them, and the
-- history of levels. Whatever is claimed after a list of calls is claimed over its events, so that a new sort
-- of call has only to say which events it makes. Source: document 01, "The machine over whole calls" and
-- demand 3. Definitions only.
use Rattle.std.specs.Prelude.{Bool, true, false, ◌&&◌, cond, List, [], ◌∷◌, ◌++◌, ◌≡◌, ℤ, pos, Float}
use Rattle.std.specs.Float.{fin}
use Rattle.std.specs.Int.{w16}
use Rattle.std.proofs.Common.{SFits}
use Rattle.floats.specs.Floats.{in_range}
use Rattle.decoder_record.specs.State.{Pll, enabled_of, reset_of}
use Rattle.decoder.specs.Machine.{Arithmetic, step_of}

pub data Event (A : Type 0) : Type 0 where
  -- a sample of an accepted block: its table, mpx and pilot
  sample : List A → A → A → Event A
  -- enable (true) or disable
  switch : Bool → Event A
  -- reset
  clear : Event A

module _ {A : Type 0} (F : Arithmetic A) where
  -- the state after an event, and after a list of them
  abbrev pub event_of : Pll A → Event A → Pll A
  event_of d (sample t x p) = (step_of F t d x p).pll
  event_of d (switch b) = enabled_of b d
  event_of d clear = reset_of F.nought d

  abbrev pub after : Pll A → List (Event A) → Pll A
  after d [] = d
  after d (e ∷ es) = after (event_of d e) es

  -- the levels of the history, ls being those so far: a sample with a finite pilot adds the level with which
  -- it ends, a reset forgets them
  abbrev pub levels_after : Pll A → Event A → List A → List A
  levels_after d (sample t x p) ls = ls ++ cond (F.usable p) ((step_of F t d x p).pll.moving.level ∷ []) []
  levels_after d (switch b) ls = ls
  levels_after d clear ls = []

  abbrev pub history : Pll A → List A → List (Event A) → List A
  history d ls [] = ls
  history d ls (e ∷ es) = history (event_of d e) (levels_after d e ls) es

  -- the history rule: some level was at or above on, and none after it was below off
  abbrev pub NoneUnder : A → List A → Type 0
  NoneUnder off [] = Unit {0}
  NoneUnder off (v ∷ vs) = (F.under v off ≡ false) × NoneUnder off vs

  pub record Locked (on off : A) (ls : List A) : Type 0 where
    pub before : List A
    pub at : A
    pub after : List A
    pub split : ls ≡ before ++ (at ∷ after)
    pub rose : F.reaches at on ≡ true
    pub stayed : NoneUnder off after

-- ---- what the integrator's limit asks of the events
-- f32: every entry of each sample's table lies in -1 to 1
abbrev pub unit_table : List Float → Bool
unit_table [] = true
unit_table (x ∷ xs) = in_range (fin true 1 (pos 0)) (fin false 1 (pos 0)) x && unit_table xs

abbrev pub UnitTables : List (Event Float) → Type 0
UnitTables [] = Unit {0}
UnitTables (sample t x p ∷ es) = (unit_table t ≡ true) × UnitTables es
UnitTables (switch b ∷ es) = UnitTables es
UnitTables (clear ∷ es) = UnitTables es

-- Q15: every pilot sample is an i16, which a program's slice cannot help (the logic's lists hold any ℤ)
abbrev pub Pilots16 : List (Event ℤ) → Type 0
Pilots16 [] = Unit {0}
Pilots16 (sample t x p ∷ es) = SFits w16 p × Pilots16 es
Pilots16 (switch b ∷ es) = Pilots16 es
Pilots16 (clear ∷ es) = Pilots16 es
