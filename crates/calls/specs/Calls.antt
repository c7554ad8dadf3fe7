-- The machine over whole calls. Sources: document 01, "The machine over whole calls"; document 02, requests 1
-- and 4. Definitions only.
use Rattle.std.specs.Prelude.{Bool, true, false, cond, List, [], ◌∷◌, ◌++◌, length, get_or}
use Rattle.answers.specs.Answer.{Said, accepted, accepts}
use Rattle.answers.specs.Samples.{samples}
use Rattle.matrix.specs.Matrix.{Matrixed}
use Rattle.decoder_record.specs.State.{Pll, enabled_of, reset_of}
use Rattle.decoder.specs.Machine.{Arithmetic, block_of}
use Rattle.merged.specs.Merged.{merged_of}
use Rattle.summary_record.specs.Record.{Summary}
use Rattle.summary_call.specs.Summary.{Columns, summary_of}
use Rattle.calls.specs.Events.{Event, sample, switch, clear}

-- a format: its arithmetic, its matrix, and which magnitudes a summary may hold
pub record Core (A : Type 0) : Type 0 where
  pub arithmetic : Arithmetic A
  pub matrix : List A → List A → Matrixed A
  pub unsigned : A → Bool

-- what a block of any sort brings: its inputs, and what its two outputs held
pub record Brought (A : Type 0) : Type 0 where
  pub table : List A
  pub mpx : List A
  pub pilot : List A
  -- sum and difference, or left and right
  pub first : List A
  pub second : List A

-- a call with what it brings
pub data Call (A : Type 0) : Type 0 where
  block merged : Brought A → Call A
  -- with the summary's record, and what its four columns held
  summary : Summary A → Brought A → Columns A → Call A
  enable disable reset : Call A

-- one output of a call as it is left; or the four columns of a summary call, and the record that comes back
pub data Output (A : Type 0) : Type 0 where
  signal : List A → Output A
  summaries : Columns A → Summary A → Output A

-- what a call leaves: its answer, its outputs in the order in which the documents name them, and the decoder
pub record Left (A D : Type 0) : Type 0 where
  pub said : Said
  pub outputs : List (Output A)
  pub decoder : D

-- a call that has two signals for outputs
abbrev pub leaving : {A D : Type 0} → Said → List A → List A → D → Left A D
leaving said first second d = record { said = said; outputs = signal first ∷ signal second ∷ []; decoder = d }

-- a call with a summary
abbrev pub leaving_summary : {A D : Type 0} → Said → List A → List A → Columns A → Summary A → D → Left A D
leaving_summary said sum difference c s d = record {
  said = said;
  outputs = signal sum ∷ signal difference ∷ summaries c s ∷ [];
  decoder = d;
}

-- a call that is never turned back, and has no outputs
abbrev pub done : {A D : Type 0} → D → Left A D
done d = record { said = accepted; outputs = []; decoder = d }

-- over the format
module _ {A : Type 0} (C : Core A) where
  abbrev F : Arithmetic A
  F = C.arithmetic

  -- what the machine leaves in the state d
  abbrev pub call_of : Pll A → Call A → Left A (Pll A)
  call_of d (block b) =
      let r = block_of F d b.table b.mpx b.pilot b.first b.second in
      leaving r.said r.sum r.difference r.pll
  call_of d (merged b) =
      let r = merged_of F C.matrix d b.table b.mpx b.pilot b.first b.second in
      leaving r.said r.left r.right r.pll
  call_of d (summary s b c) =
      let r = summary_of F C.unsigned d s b.table b.mpx b.pilot b.first b.second c in
      leaving_summary r.said r.sum r.difference r.columns r.summary r.pll
  call_of d enable = done (enabled_of true d)
  call_of d disable = done (enabled_of false d)
  call_of d reset = done (reset_of F.nought d)

  -- the samples of a block in order, if its answer is accepted, and else none
  abbrev pub samples_of : Said → Brought A → List (Event A)
  samples_of said b =
      cond (accepts said)
      (samples (length b.mpx) (λ i. sample b.table (get_or b.mpx i F.nought) (get_or b.pilot i F.nought)))
      []

  -- the events that a call makes
  abbrev pub events_of : Pll A → Call A → List (Event A)
  events_of d (block b) = samples_of (call_of d (block b)).said b
  events_of d (merged b) = samples_of (call_of d (merged b)).said b
  events_of d (summary s b c) = samples_of (call_of d (summary s b c)).said b
  events_of d enable = switch true ∷ []
  events_of d disable = switch false ∷ []
  events_of d reset = clear ∷ []

  -- over a list, each call in the state that the one before left: what each leaves, the last state, and the
  -- events of all
  abbrev pub machine : Pll A → List (Call A) → List (Left A (Pll A))
  machine d [] = []
  machine d (c ∷ cs) = call_of d c ∷ machine (call_of d c).decoder cs

  abbrev pub final : Pll A → List (Call A) → Pll A
  final d [] = d
  final d (c ∷ cs) = final (call_of d c).decoder cs

  abbrev pub events : Pll A → List (Call A) → List (Event A)
  events d [] = []
  events d (c ∷ cs) = events_of d c ++ events (call_of d c).decoder cs
