-- A decoder's state, over the format, and the calls that only set fields. Sources: document 01, "The decoder
-- record" and "The machine over whole calls" (enable, disable, reset). Definitions only.
use Rattle.std.specs.Prelude.{ℕ, Bool, true, false}
use Rattle.decoder_gains.specs.Gains.{Gains}

-- what samples move
pub record Moving (A : Type 0) : Type 0 where
  pub phase : ℕ
  pub integ : A
  pub level : A
  pub stereo : Bool

-- the machine's state: the record's fields
pub record Pll (A : Type 0) : Type 0 where
  pub gains : Gains A
  pub moving : Moving A
  pub enabled : Bool

-- phase 0, integrator 0, level 0, stereo false; z is the format's 0
abbrev pub start : {A : Type 0} → A → Moving A
start z = record { phase = 0; integ = z; level = z; stereo = false }

-- a fresh decoder is enabled
abbrev pub fresh_of : {A : Type 0} → A → Gains A → Pll A
fresh_of z g = record { gains = g; moving = start z; enabled = true }

-- the state with other values of what samples move
abbrev pub moved_to : {A : Type 0} → Pll A → Moving A → Pll A
moved_to d m = record { gains = d.gains; moving = m; enabled = d.enabled }

-- enable and disable set enabled
abbrev pub enabled_of : {A : Type 0} → Bool → Pll A → Pll A
enabled_of b d = record { gains = d.gains; moving = d.moving; enabled = b }

-- reset sets phase, integrator and level to 0 and stereo to false
abbrev pub reset_of : {A : Type 0} → A → Pll A → Pll A
reset_of z d = moved_to d (start z)
