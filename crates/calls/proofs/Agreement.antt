-- Demand 3 from what each format shows of its functions: what their callers learn is what the machine says, at
-- one call and so over every list. Over the format. Assumes nothing.
use Prim.Native.Nat.{ℕ}
use mathlib.Core.Path.{◌≡◌, refl, sym, ap, ◌∙◌}
use mathlib.Core.Bool.{true, false}
use mathlib.Core.List.{List, [], ◌∷◌, map}
use lib.ListN.{length}
use contract.Lifetimes.{Lfts}
use Rattle.std.specs.Borrow.{Bor, MutBor}
use Rattle.answers.specs.Answer.{Said, accepted, turned, lengths, accepts, made, map_built, kept}
use Rattle.answers.proofs.Causes.{made_same}
use Rattle.decoder_record.specs.State.{Pll, enabled_of, reset_of}
use Rattle.decoder.specs.Machine.{Arithmetic, Blocked, run_of, block_of}
use Rattle.merged.specs.Merged.{merged_by, Merged, merged_of}
use Rattle.summary_record.specs.Record.{Summary}
use Rattle.summary_call.specs.Summary.{Columns, columns_of, Outcome, Running, Summarized, begun, through, summary_says, summary_run, summary_of}
use Rattle.summary_record.proofs.Fits.{Unsigned}
use Rattle.calls.specs.Events.{Event, after}
use Rattle.calls.specs.Calls.{Core, Brought, Call, block, merged, summary, enable, disable, reset, Left, leaving, leaving_summary, done, call_of, machine, final, events}
use Rattle.calls.specs.Demand.{lent, lent_out, Arguments, Answered, BlockLearnt, SummaryLearnt, Decoder, Format, Constructed, seen, Leaves, MatrixOf, LeavesSummary, SummaryBy, plain_decoder, fast_decoder, OwnMatrix, OwnSummary, May, Runs, last_record, After, Demand}
use Rattle.calls.proofs.Events.{final_after}
use Rattle.calls.proofs.History.{stereo_locked, locked_stereo}
use Rattle.calls.proofs.Steps.{says_of, own_block, block_said, block_ran, summary_ran, blocked_in, shown_steps}

module _ {A D R Q N S T : Type 0} (K : Format A D R Q N S T) where
  abbrev C : Core A
  C = K.core

  abbrev F : Arithmetic A
  F = C.arithmetic

  -- what a caller of a block learns is the machine's block, and of a merged one the machine's merged block
  abbrev pub BlockRight : {X : Type 0} → (X → Answered D) → BlockLearnt A D X → Type 0
  BlockRight {X} parts B = (κs : Lfts 5) (d : D) (t x p : Bor (List A)) (y z : MutBor (List A)) (r : X) (y' z' : MutBor (List A)) → B κs d t x p y z r y' z'
      → record { said = (parts r).said; sum = y'.now; difference = z'.now; pll = K.state (parts r).decoder } ≡ block_of F (K.state d) t.now x.now p.now y.now z.now

  abbrev pub MergedRight : {X : Type 0} → (X → Answered D) → BlockLearnt A D X → Type 0
  MergedRight {X} parts B = (κs : Lfts 5) (d : D) (t x p : Bor (List A)) (y z : MutBor (List A)) (r : X) (y' z' : MutBor (List A)) → B κs d t x p y z r y' z'
      → record { said = (parts r).said; left = y'.now; right = z'.now; pll = K.state (parts r).decoder } ≡ merged_of F C.matrix (K.state d) t.now x.now p.now y.now z.now

  abbrev pub SummaryRight : SummaryLearnt A D S T → Type 0
  SummaryRight B = (κs : Lfts 9) (d : D) (s : S) (t x p : Bor (List A)) (y z : MutBor (List A)) (e f g : MutBor (List ℕ)) (m : MutBor (List A))
      (r : T) (y' z' : MutBor (List A)) (e' f' g' : MutBor (List ℕ)) (m' : MutBor (List A)) → B κs d s t x p y z e f g m r y' z' e' f' g' m'
      → record {
        said = (K.replied r).said;
        sum = y'.now;
        difference = z'.now;
        columns = record { stereo = e'.now; mono = f'.now; changes = g'.now; magnitude = m'.now };
        pll = K.state (K.replied r).decoder;
        summary = K.summary_state (K.replied r).summary;
      }
      ≡ summary_of F C.unsigned (K.state d) (K.summary_state s) t.now x.now p.now y.now z.now (record { stereo = e.now; mono = f.now; changes = g.now; magnitude = m.now })

  -- the three calls that set fields
  pub record SetsRight : Type 0 where
    pub enables : (d e : D) → K.enable d e → K.state e ≡ enabled_of true (K.state d)
    pub disables : (d e : D) → K.disable d e → K.state e ≡ enabled_of false (K.state d)
    pub resets : (d e : D) → K.reset d e → K.state e ≡ reset_of F.nought (K.state d)

  -- each sort of block of a decoder leaves what the machine leaves
  pub record BlocksRight (W : Decoder A D) : Type 0 where
    pub as_block : (d : D) (b : Brought A) (l : Left A D) → W.block d b l → seen K l ≡ call_of C (K.state d) (block b)
    pub as_merged : (d : D) (b : Brought A) (l : Left A D) → W.merged d b l → seen K l ≡ call_of C (K.state d) (merged b)
    pub as_summary : (d : D) (s : Summary A) (b : Brought A) (c : Columns A) (l : Left A D) → W.summary d s b c l → seen K l ≡ call_of C (K.state d) (summary s b c)

  -- what a block of each sort leaves as a call leaves it
  abbrev pub of_block : Blocked A → Left A (Pll A)
  of_block r = leaving r.said r.sum r.difference r.pll

  abbrev of_merged : Merged A → Left A (Pll A)
  of_merged r = leaving r.said r.left r.right r.pll

  abbrev pub of_summary : Summarized A → Left A (Pll A)
  of_summary r = leaving_summary r.said r.sum r.difference r.columns r.summary r.pll

  pub block_leaves : {X : Type 0} (parts : X → Answered D) (B : BlockLearnt A D X) → BlockRight parts B → (d : D) (b : Brought A) (l : Left A D) → Leaves K parts B d b l → seen K l ≡ call_of C (K.state d) (block b)
  block_leaves parts B right d b l h =
      let w = h.1 in
      ap (seen K) h.6 ∙ ap of_block (right h.0 d (lent w.0 b.table) (lent w.1 b.mpx) (lent w.2 b.pilot) (lent_out w.3 b.first) (lent_out w.4 b.second) h.2 (lent_out w.3 h.3) (lent_out w.4 h.4) h.5)

  merged_leaves : {X : Type 0} (parts : X → Answered D) (B : BlockLearnt A D X) → MergedRight parts B → (d : D) (b : Brought A) (l : Left A D) → Leaves K parts B d b l → seen K l ≡ call_of C (K.state d) (merged b)
  merged_leaves parts B right d b l h =
      let w = h.1 in
      ap (seen K) h.6 ∙ ap of_merged (right h.0 d (lent w.0 b.table) (lent w.1 b.mpx) (lent w.2 b.pilot) (lent_out w.3 b.first) (lent_out w.4 b.second) h.2 (lent_out w.3 h.3) (lent_out w.4 h.4) h.5)

  summary_leaves : (B : SummaryLearnt A D S T) → SummaryRight B
      → (d : D) (s : Summary A) (b : Brought A) (c : Columns A) (l : Left A D) → LeavesSummary K B d s b c l → seen K l ≡ call_of C (K.state d) (summary s b c)
  summary_leaves B right d s b c l h =
      let w = h.1 in
      let e = h.7 in
      ap (seen K) h.9
      ∙ ap of_summary (right h.0 d h.2 (lent w.0 b.table) (lent w.1 b.mpx) (lent w.2 b.pilot) (lent_out w.3 b.first) (lent_out w.4 b.second) (lent_out w.5 c.stereo) (lent_out w.6 c.mono) (lent_out w.7 c.changes) (lent_out w.8 c.magnitude) h.4 (lent_out w.3 h.5) (lent_out w.4 h.6) (lent_out w.5 e.stereo) (lent_out w.6 e.mono) (lent_out w.7 e.changes) (lent_out w.8 e.magnitude) h.8)
      ∙ ap (λ (s : Summary A). call_of C (K.state d) (summary s b c)) h.3

  -- the matrix of what a block has left
  abbrev merging : Blocked A → Left A (Pll A)
  merging r = let m = merged_by C.matrix r.said r.sum r.difference in leaving r.said m.left m.right r.pll

  matrix_leaves : (Block : D → Brought A → Left A D → Type 0)
      → ((d : D) (b : Brought A) (l : Left A D) → Block d b l → seen K l ≡ call_of C (K.state d) (block b))
      → (d : D) (b : Brought A) (l : Left A D) → MatrixOf K Block d b l → seen K l ≡ call_of C (K.state d) (merged b)
  unfolding merged_of
  matrix_leaves Block right d b l h =
      ap (seen K) h.5 ∙ ap (λ (z : Left A (Pll A)). merging (blocked_in K z)) (right d b (leaving h.0 h.1 h.2 h.3) h.4)

  -- the summaries of what a block shows
  shown_leaves : (Block : D → Brought A → Left A D → Type 0)
      → ((d : D) (b : Brought A) (l : Left A D) → Block d b l → seen K l ≡ call_of C (K.state d) (block b))
      → (d : D) (s : Summary A) (b : Brought A) (c : Columns A) (l : Left A D) → SummaryBy K Block d s b c l → seen K l ≡ call_of C (K.state d) (summary s b c)
  unfolding summary_of summary_run run_of
  shown_leaves Block right d s b c l h = ap (seen K) h.7 ∙ ap (λ (u : Said). seen K (left (summary_says F C.unsigned s u n c))) said ∙ go (summary_says F C.unsigned s own n c) refl
    where
      m : Pll A
      m = K.state d

      n : ℕ
      n = length b.mpx

      own : Said
      own = says_of F m b

      is_block : record { said = h.0; sum = h.1; difference = h.2; pll = K.state h.3 } ≡ own_block F m b
      is_block = ap (blocked_in K) (right d b (leaving h.0 h.1 h.2 h.3) h.5)

      said : h.0 ≡ own
      said = ap (λ (r : Blocked A). r.said) is_block ∙ block_said F m b

      all : List (Outcome A) → Running A
      all os = through F (begun s) os

      left : Said → Left A D
      left u =
          kept u
          (leaving_summary u h.1 h.2 (columns_of (all h.4).finished) (all h.4).summary h.3)
          (leaving_summary u b.first b.second c s d)

      go : (u : Said) → summary_says F C.unsigned s own n c ≡ u
          → seen K (left u) ≡ of_summary (kept u (summary_run F m s b.table b.mpx b.pilot) (record { said = u; sum = b.first; difference = b.second; columns = c; pll = m; summary = s }))
      go accepted e =
          let says = (summary_ran F C.unsigned m s b c e).own in
          let ran = is_block ∙ block_ran F m b says in
          let os = shown_steps K Block right d b h.2 h.4 says (ap (λ (r : Blocked A). r.difference) is_block) (h.6 (ap accepts (said ∙ says))) in
          λ j. leaving_summary accepted (ran j).sum (ran j).difference (columns_of (all (os j)).finished) (all (os j)).summary (ran j).pll
      go (turned x) e = refl
      go (lengths x y z) e = refl

  -- whatever the plain block does
  pub own_matrix : OwnMatrix K
  own_matrix d b l h = h

  pub own_summary_lem : OwnSummary K
  own_summary_lem d s b c l h = h

  module _ (W : Decoder A D) (right : BlocksRight W) (sets : SetsRight) where
    pub one : (d : D) (c : Call A) (l : Left A D) → May K W d c l → seen K l ≡ call_of C (K.state d) c
    one d (block b) l h = right.as_block d b l h
    one d (merged b) l h = right.as_merged d b l h
    one d (summary s b c) l h = right.as_summary d s b c l h
    one d enable l h = ap (seen K) h.2 ∙ ap done (sets.enables d h.0 h.1)
    one d disable l h = ap (seen K) h.2 ∙ ap done (sets.disables d h.0 h.1)
    one d reset l h = ap (seen K) h.2 ∙ ap done (sets.resets d h.0 h.1)

    pub agree : (d : D) (cs : List (Call A)) (ls : List (Left A D)) → Runs K W d cs ls → map (seen K) ls ≡ machine C (K.state d) cs
    agree d [] [] h = refl
    agree d [] (l ∷ ls) h = absurd h
    agree d (c ∷ cs) [] h = absurd h
    agree d (c ∷ cs) (l ∷ ls) h =
        ap (λ (m : List (Left A (Pll A))). seen K l ∷ m) (agree l.decoder cs ls h.1)
        ∙ ap (λ (b : Left A (Pll A)). b ∷ machine C b.decoder cs) (one d c l h.0)

    -- the record that the last call left is the machine's last state
    pub last_agrees : (d : D) (cs : List (Call A)) (ls : List (Left A D)) → Runs K W d cs ls → K.state (last_record K d ls) ≡ final C (K.state d) cs
    last_agrees d [] [] h = refl
    last_agrees d [] (l ∷ ls) h = absurd h
    last_agrees d (c ∷ cs) [] h = absurd h
    last_agrees d (c ∷ cs) (l ∷ ls) h = last_agrees l.decoder cs ls h.1 ∙ ap (λ (b : Left A (Pll A)). final C b.decoder cs) (one d c l h.0)

  -- ---- demand 3, from what a format shows
  pub record Shown : Type 0 where
    pub plain_right : BlockRight K.plain_reply K.plain
    pub fast_right : BlockRight K.fast_reply K.fast
    pub merged_right : MergedRight K.fast_reply K.merged
    pub summary_right : SummaryRight K.summary
    pub unsigned_shown : Unsigned F C.unsigned
    pub sets_right : SetsRight
    pub make_right : (a : Arguments) (r : N) → K.make a r → map_built K.state (K.built r) ≡ K.new_of a
    pub mono_new : (a : Arguments) (m : Pll A) → K.new_of a ≡ made m → m.moving.stereo ≡ false
    pub limited : (a : Arguments) (m : Pll A) → K.new_of a ≡ made m → (es : List (Event A)) → K.Premise es → K.Within (after F m es)
    pub some_decoder : (a : Arguments) × (d : D) × Constructed K a d
    pub some_plain : (d : D) (cs : List (Call A)) → (ls : List (Left A D)) × Runs K (plain_decoder K) d cs ls
    pub some_fast : (d : D) (cs : List (Call A)) → (ls : List (Left A D)) × Runs K (fast_decoder K) d cs ls

  module _ (s : Shown) where
    pub plain_blocks : BlocksRight (plain_decoder K)
    plain_blocks =
        let own = block_leaves K.plain_reply K.plain s.plain_right in
        record {
          as_block = own;
          as_merged = λ d b l h. matrix_leaves (Leaves K K.plain_reply K.plain) own d b l (own_matrix d b l h);
          as_summary = λ d s b c l h. shown_leaves (Leaves K K.plain_reply K.plain) own d s b c l (own_summary_lem d s b c l h);
        }

    pub fast_blocks : BlocksRight (fast_decoder K)
    fast_blocks = record {
      as_block = block_leaves K.fast_reply K.fast s.fast_right;
      as_merged = merged_leaves K.fast_reply K.merged s.merged_right;
      as_summary = summary_leaves K.summary s.summary_right;
    }

    -- a constructed decoder is the machine's fresh state
    pub start : (a : Arguments) (d : D) → Constructed K a d → K.new_of a ≡ made (K.state d)
    start a d c = sym (s.make_right a c.0 c.1) ∙ ap (map_built K.state) c.2

    rules : (a : Arguments) (m : Pll A) → K.new_of a ≡ made m → (cs : List (Call A)) → After K m cs
    rules a m h cs =
        let mono = s.mono_new a m h in
        let es = events C m cs in
        let e = final_after C m cs in
        record {
          stereo = λ k. stereo_locked F m mono es (rw e at k);
          only = λ w. rw e (locked_stereo F m mono es w);
          limit = λ p. rw e (s.limited a m h es p);
        }

    pub demand : Demand K
    demand = record {
      begins = s.make_right;
      lists = λ a d e h k cs ls ks p f.
          let m = start a d h in
          let same : K.state e ≡ K.state d = made_same (sym (start a e k) ∙ m) in
          record {
            fresh = K.state d;
            begins = m;
            plain_calls = agree (plain_decoder K) plain_blocks s.sets_right d cs ls p;
            fast_calls = rw (← same) (agree (fast_decoder K) fast_blocks s.sets_right e cs ks f);
            plain_last = last_agrees (plain_decoder K) plain_blocks s.sets_right d cs ls p;
            fast_last = rw (← same) (last_agrees (fast_decoder K) fast_blocks s.sets_right e cs ks f);
            rules = rules a (K.state d) m cs;
          };
      some_decoder = s.some_decoder;
      some_plain = s.some_plain;
      some_fast = s.some_fast;
    }
