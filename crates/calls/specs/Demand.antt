-- Demand 3: one claim about every list of calls from a fresh decoder. Sources: document 01, "Demand 3 is a
-- single claim about the whole list"; document 02, requests 1 and 4. docs/DECISIONS.md goes through it phrase
-- by phrase. Definitions only.
-- It is stated over what a caller of each function learns from the function's own contract.
-- proofs/Functions.antt names the functions of both formats, proofs/Demand.antt proves it.
use Rattle.std.specs.Prelude.{ℕ, suc, ◌<◌, true, List, [], ◌∷◌, map, length, get_or, take, ◌≡◌, Float}
use contract.Lifetimes.{Lfts}
use Rattle.std.specs.Borrow.{Bor, MutBor}
use Rattle.answers.specs.Answer.{Said, accepted, accepts, Built, made, map_built, kept}
use Rattle.matrix.specs.Matrix.{Matrixed}
use Rattle.decoder_record.specs.State.{Pll}
use Rattle.decoder.specs.Machine.{Arithmetic}
use Rattle.merged.specs.Merged.{merged_by}
use Rattle.summary_record.specs.Record.{Summary}
use Rattle.summary_call.specs.Summary.{Columns, columns_of, Outcome, Running, begun, through, summary_says}
use Rattle.calls.specs.Events.{Event, history, Locked}
use Rattle.calls.specs.Calls.{Core, Brought, Call, block, merged, summary, enable, disable, reset, Left, leaving, leaving_summary, done, machine, final, events}

-- a place in memory with a ghost name, and a slice that is lent there: to be read, and to be written
abbrev pub Place : Type 0
Place = (ℕ × ℕ) × ℕ

abbrev pub lent : {A : Type 0} → Place → List A → Bor (List A)
lent w l = record { ref_ptr = w.0; now = l }

abbrev pub lent_out : {A : Type 0} → Place → List A → MutBor (List A)
lent_out w l = record { ref_ptr = w.0; ghost_name = w.1; now = l }

-- construction's arguments
pub record Arguments : Type 0 where
  pub pilot : Float
  pub natural : Float
  pub level : Float
  pub beta : Float
  pub rate : Float

-- what a caller of a block of either sort learns, of lifetimes, record, table, mpx, pilot, the two outputs, the
-- reply, and the two outputs at exit
abbrev pub BlockLearnt : Type 0 → Type 0 → Type 0 → Type 1
BlockLearnt A D R =
    Lfts 5 → D
    → Bor (List A) → Bor (List A) → Bor (List A) → MutBor (List A) → MutBor (List A)
    → R → MutBor (List A) → MutBor (List A) → Type 0

-- .. and of a block with summaries, of lifetimes, the two records, table, mpx, pilot, the six outputs, the reply,
-- and the six outputs at exit
abbrev pub SummaryLearnt : Type 0 → Type 0 → Type 0 → Type 0 → Type 1
SummaryLearnt A D S T =
    Lfts 9 → D → S
    → Bor (List A) → Bor (List A) → Bor (List A) → MutBor (List A) → MutBor (List A)
    → MutBor (List ℕ) → MutBor (List ℕ) → MutBor (List ℕ) → MutBor (List A)
    → T → MutBor (List A) → MutBor (List A)
    → MutBor (List ℕ) → MutBor (List ℕ) → MutBor (List ℕ) → MutBor (List A) → Type 0

-- a block's reply by its parts: the answer, and the decoder's record D
pub record Answered (D : Type 0) : Type 0 where
  pub said : Said
  pub decoder : D

-- a summary call's reply, T, by its parts: the answer, the decoder's record D and the summary's, S
pub record Replied (D S : Type 0) : Type 0 where
  pub said : Said
  pub decoder : D
  pub summary : S

-- a format: A is its sample, D the decoder's record, R a plain block's reply, Q a fast one's, N construction's
-- answer, S a summary's record, T a summary call's reply
pub record Format (A D R Q N S T : Type 0) : Type 1 where
  -- the machine: its arithmetic, matrix and magnitudes, and how it begins for construction's arguments
  pub core : Core A
  pub new_of : Arguments → Built (Pll A)
  -- the records, the replies and construction's answer in its terms
  pub state : D → Pll A
  pub plain_reply : R → Answered D
  pub fast_reply : Q → Answered D
  pub built : N → Built D
  pub summary_state : S → Summary A
  pub replied : T → Replied D S
  -- what a caller learns of construction, of the plain and the fast block, of the merged one and the one with
  -- summaries, which are fast, and of the three calls that are common to both decoders
  pub make : Arguments → N → Type 0
  pub plain : BlockLearnt A D R
  pub fast : BlockLearnt A D Q
  pub merged : BlockLearnt A D Q
  pub summary : SummaryLearnt A D S T
  pub enable : D → D → Type 0
  pub disable : D → D → Type 0
  pub reset : D → D → Type 0
  -- what the events have to be for the integrator's limit, and what it says of the last state
  pub Premise : List (Event A) → Type 0
  pub Within : Pll A → Type 0

-- a decoder as its caller knows it: what each sort of block, made with a record, may leave
pub record Decoder (A D : Type 0) : Type 1 where
  pub block : D → Brought A → Left A D → Type 0
  pub merged : D → Brought A → Left A D → Type 0
  pub summary : D → Summary A → Brought A → Columns A → Left A D → Type 0

-- the first n samples of what a block brings
abbrev pub first_of : {A : Type 0} → ℕ → Brought A → Brought A
first_of n b = record {
  table = b.table;
  mpx = take n b.mpx;
  pilot = take n b.pilot;
  first = take n b.first;
  second = take n b.second;
}

module _ {A D R Q N S T : Type 0} (K : Format A D R Q N S T) where
  abbrev C : Core A
  C = K.core

  abbrev F : Arithmetic A
  F = C.arithmetic

  -- construction with these arguments may return the decoder d
  abbrev pub Constructed : Arguments → D → Type 0
  Constructed a d = (r : N) × K.make a r × (K.built r ≡ made d)

  -- what is compared at each call: the answer with its lengths, every output sample as left, every field
  abbrev pub seen : Left A D → Left A (Pll A)
  seen l = record { said = l.said; outputs = l.outputs; decoder = K.state l.decoder }

  -- ---- the plain and the fast decoder
  -- a block made with the record d may leave l, wherever its slices lie; parts reads its reply
  abbrev pub Leaves : {X : Type 0} → (X → Answered D) → BlockLearnt A D X → D → Brought A → Left A D → Type 0
  Leaves {X} parts B d b l =
      (κs : Lfts 5) × (w : Place × Place × Place × Place × Place)
      × (r : X) × (first : List A) × (second : List A)
      × B κs d (lent w.0 b.table) (lent w.1 b.mpx) (lent w.2 b.pilot)
      (lent_out w.3 b.first) (lent_out w.4 b.second)
      r (lent_out w.3 first) (lent_out w.4 second)
      × (l ≡ leaving (parts r).said first second (parts r).decoder)

  -- the merged block that a block makes: the matrix of the outputs that it leaves, or its refusal
  abbrev pub MatrixOf : (D → Brought A → Left A D → Type 0) → D → Brought A → Left A D → Type 0
  MatrixOf Block d b l =
      (said : Said) × (sum : List A) × (difference : List A) × (e : D)
      × Block d b (leaving said sum difference e)
      × (let m = merged_by C.matrix said sum difference in l ≡ leaving said m.left m.right e)

  -- a block with summaries, made with the records d and one that stands for s, may leave l, wherever its slices
  -- lie
  abbrev pub LeavesSummary : SummaryLearnt A D S T → D → Summary A → Brought A → Columns A → Left A D → Type 0
  LeavesSummary B d s b c l =
      (κs : Lfts 9) × (w : Place × Place × Place × Place × Place × Place × Place × Place × Place)
      × (held : S) × (K.summary_state held ≡ s)
      × (r : T) × (sum : List A) × (difference : List A) × (e : Columns A)
      × B κs d held (lent w.0 b.table) (lent w.1 b.mpx) (lent w.2 b.pilot)
      (lent_out w.3 b.first) (lent_out w.4 b.second)
      (lent_out w.5 c.stereo) (lent_out w.6 c.mono) (lent_out w.7 c.changes) (lent_out w.8 c.magnitude)
      r (lent_out w.3 sum) (lent_out w.4 difference)
      (lent_out w.5 e.stereo) (lent_out w.6 e.mono) (lent_out w.7 e.changes) (lent_out w.8 e.magnitude)
      × (let q = K.replied r in
      l ≡ leaving_summary q.said sum difference e (K.summary_state q.summary) q.decoder)

  -- what a block shows of its samples, o of each: the difference is that which the block left, and the decision
  -- that with which a block of the samples up to this one ends
  abbrev pub Shows : (D → Brought A → Left A D → Type 0) → D → Brought A → List A → List (Outcome A) → Type 0
  Shows Block d b difference os =
      (length os ≡ length b.mpx)
      × ((i : ℕ) → i < length b.mpx → (z : Outcome A)
      → ((get_or os i z).difference ≡ get_or difference i F.nought)
      × ((said : Said) × (sum : List A) × (other : List A) × (e : D)
      × Block d (first_of (suc i) b) (leaving said sum other e)
      × ((get_or os i z).stereo ≡ (K.state e).moving.stereo)))

  -- the call that a block makes: the summaries of what it shows, where nothing is turned back; else all stays
  abbrev pub SummaryBy : (D → Brought A → Left A D → Type 0) → D → Summary A → Brought A → Columns A → Left A D → Type 0
  SummaryBy Block d s b c l =
      (said : Said) × (sum : List A) × (difference : List A) × (e : D) × (os : List (Outcome A))
      × Block d b (leaving said sum difference e)
      × (accepts said ≡ true → Shows Block d b difference os)
      × (let says = summary_says F C.unsigned s said (length b.mpx) c in
      let r = through F (begun s) os in
      l ≡ kept says
      (leaving_summary says sum difference (columns_of r.finished) r.summary e)
      (leaving_summary says b.first b.second c s d))

  abbrev pub plain_decoder : Decoder A D
  plain_decoder = let own = Leaves K.plain_reply K.plain in record { block = own; merged = MatrixOf own; summary = SummaryBy own }

  abbrev pub fast_decoder : Decoder A D
  fast_decoder = record {
    block = Leaves K.fast_reply K.fast;
    merged = Leaves K.fast_reply K.merged;
    summary = LeavesSummary K.summary;
  }

  -- the plain decoder's merged block is the matrix of its own block's outputs
  abbrev pub OwnMatrix : Type 0
  OwnMatrix = (d : D) (b : Brought A) (l : Left A D) → plain_decoder.merged d b l → MatrixOf (Leaves K.plain_reply K.plain) d b l

  -- .. and its summaries are those of what its own block shows
  abbrev pub OwnSummary : Type 0
  OwnSummary = (d : D) (s : Summary A) (b : Brought A) (c : Columns A) (l : Left A D)
      → plain_decoder.summary d s b c l → SummaryBy (Leaves K.plain_reply K.plain) d s b c l

  module _ (W : Decoder A D) where
    -- this call, made with the record d, may leave l
    abbrev pub May : D → Call A → Left A D → Type 0
    May d (block b) l = W.block d b l
    May d (merged b) l = W.merged d b l
    May d (summary s b c) l = W.summary d s b c l
    May d enable l = (e : D) × K.enable d e × (l ≡ done e)
    May d disable l = (e : D) × K.disable d e × (l ≡ done e)
    May d reset l = (e : D) × K.reset d e × (l ≡ done e)

    -- a list of calls, the first with the record d and each later one with the record that the call before
    -- left, may leave these
    abbrev pub Runs : D → List (Call A) → List (Left A D) → Type 0
    Runs d [] [] = Unit {0}
    Runs d [] (l ∷ ls) = ⊥
    Runs d (c ∷ cs) [] = ⊥
    Runs d (c ∷ cs) (l ∷ ls) = May d c l × Runs l.decoder cs ls

  abbrev pub last_record : D → List (Left A D) → D
  last_record d [] = d
  last_record d (l ∷ ls) = last_record l.decoder ls

  -- ---- the claim
  -- after a list of calls that began in the machine's fresh state m
  pub record After (m : Pll A) (cs : List (Call A)) : Type 0 where
    -- stereo exactly when the history rule says so
    pub stereo : (final C m cs).moving.stereo ≡ true
        → Locked F m.gains.on m.gains.off (history F m [] (events C m cs))
    pub only : Locked F m.gains.on m.gains.off (history F m [] (events C m cs))
        → (final C m cs).moving.stereo ≡ true
    -- the integrator within its limit
    pub limit : K.Premise (events C m cs) → K.Within (final C m cs)

  -- two decoders that were constructed alike, the plain one leaving ls over the list and the fast one ks: the
  -- machine has a fresh state, and from it leaves what each of them leaves, at each call and at last
  pub record Agreed (a : Arguments) (d e : D) (cs : List (Call A)) (ls ks : List (Left A D)) : Type 0 where
    pub fresh : Pll A
    pub begins : K.new_of a ≡ made fresh
    pub plain_calls : map seen ls ≡ machine C fresh cs
    pub fast_calls : map seen ks ≡ machine C fresh cs
    pub plain_last : K.state (last_record d ls) ≡ final C fresh cs
    pub fast_last : K.state (last_record e ks) ≡ final C fresh cs
    pub rules : After fresh cs

  pub record Demand : Type 0 where
    -- construction is turned back under the machine's number, or makes the machine's fresh state
    pub begins : (a : Arguments) (r : N) → K.make a r → map_built K.state (K.built r) ≡ K.new_of a
    -- every list of calls
    pub lists : (a : Arguments) (d e : D) → Constructed a d → Constructed a e
        → (cs : List (Call A)) (ls ks : List (Left A D)) → Runs plain_decoder d cs ls → Runs fast_decoder e cs ks
        → Agreed a d e cs ls ks
    -- and this says something: some arguments make a decoder, and whatever it is asked, both ways leave
    -- something
    pub some_decoder : (a : Arguments) × (d : D) × Constructed a d
    pub some_plain : (d : D) (cs : List (Call A)) → (ls : List (Left A D)) × Runs plain_decoder d cs ls
    pub some_fast : (d : D) (cs : List (Call A)) → (ks : List (Left A D)) × Runs fast_decoder d cs ks
