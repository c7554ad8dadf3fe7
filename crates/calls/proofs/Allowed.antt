-- The contracts allow something over every list of calls, whatever a decoder is asked: the machine's own
-- replies. Over the format. Assumes nothing.
use Prim.Native.Nat.{ℕ}
use mathlib.Core.Path.{◌≡◌, refl, sym, ap, ◌∙◌}
use mathlib.Core.Bool.{Bool, true, false, cond}
use mathlib.Core.List.{List, [], ◌∷◌}
use lib.Dec.{eqb}
use lib.ListN.{length}
use contract.Lifetimes.{Lfts}
use Rattle.answers.specs.Answer.{Said, accepted, turned, lengths, rule, length_rule, or_else, says}
use Rattle.std.proofs.Common.{Result, Ok, Err}
use Rattle.answers.specs.declared.answer.Refusal.{Refusal}
use Rattle.answers.specs.declared.answer.Refusal.TheVariants as cause
use Rattle.answers.proofs.Causes.{none_yet}
use Rattle.decoder_record.specs.State.{Pll, enabled_of, reset_of}
use Rattle.decoder.specs.Machine.{Arithmetic, Blocked, block_says}
use Rattle.merged.specs.Merged.{Merged, merged_of}
use Rattle.summary_counts.specs.Counts.{places_of}
use Rattle.summary_record.specs.Record.{Summary, summary_fit}
use Rattle.summary_call.specs.Summary.{Columns, Summarized, summary_says}
use Rattle.calls.specs.Calls.{Core, Brought, Call, block, merged, summary, enable, disable, reset, Left, leaving, done}
use Rattle.calls.specs.Demand.{Place, lent, lent_out, Answered, BlockLearnt, SummaryLearnt, Decoder, Format, Leaves, MatrixOf, LeavesSummary, SummaryBy, first_of, plain_decoder, fast_decoder, May, Runs}
use Rattle.calls.proofs.Steps.{says_of, own_block, block_said, own_summary, summary_said, outcomes_in, steps_shown}
use Rattle.calls.proofs.Agreement.{BlockRight, block_leaves}

-- ---- an answer of the program for whatever the machine says
abbrev pub Answer : Type 0
Answer = Result (Unit {0}) Refusal

abbrev Sayable : Said → Type 0
Sayable s = (a : Answer) × (says a ≡ s)

or_sayable : (s t : Said) → Sayable s → Sayable t → Sayable (or_else s t)
or_sayable accepted t a b = b
or_sayable (turned n) t a b = a
or_sayable (lengths n x y) t a b = a

rule_sayable : (n : ℕ) (b : Bool) → Sayable (turned n) → Sayable (rule n b)
rule_sayable n true a = (Ok tt, refl)
rule_sayable n false a = a

length_sayable : (n wanted found : ℕ) → Sayable (lengths n wanted found) → Sayable (length_rule n wanted found)
length_sayable n wanted found a = go (eqb found wanted)
  where
    go : (b : Bool) → Sayable (cond b accepted (lengths n wanted found))
    go true = (Ok tt, refl)
    go false = a

output_sayable : (n found : ℕ) (t : Said) → Sayable t → Sayable (or_else (length_rule 11 n found) t)
output_sayable n found t b = or_sayable (length_rule 11 n found) t (length_sayable 11 n found (Err (cause.Output n found), refl)) b

block_sayable : {A : Type 0} (F : Arithmetic A) (m : Pll A) (t n p s d : ℕ) → Sayable (block_says F m t n p s d)
block_sayable F m t n p s d =
    or_sayable (rule 0 (F.fit m)) _ (rule_sayable 0 (F.fit m) (Err cause.Unfit, refl))
    (or_sayable (length_rule 9 4097 t) _ (length_sayable 9 4097 t (Err (cause.Table t), refl))
    (or_sayable (length_rule 10 n p) _ (length_sayable 10 n p (Err (cause.Input n p), refl))
    (output_sayable n s _ (output_sayable n d accepted (Ok tt, refl)))))

summary_sayable : {A : Type 0} (F : Arithmetic A) (unsigned : A → Bool) (s : Summary A) (own : Said) (n : ℕ) (c : Columns A) → Sayable own → Sayable (summary_says F unsigned s own n c)
summary_sayable F unsigned s own n c b =
    let places = places_of s.counts n in
    or_sayable (rule 20 (summary_fit F unsigned s)) _ (rule_sayable 20 (summary_fit F unsigned s) (Err cause.Summary, refl))
    (or_sayable own _ b
    (output_sayable places (length c.stereo) _
    (output_sayable places (length c.mono) _
    (output_sayable places (length c.changes) _
    (output_sayable places (length c.magnitude) accepted (Ok tt, refl))))))

-- ---- over every list of calls the contracts allow something
abbrev lifetimes : Lfts 5
lifetimes = ([], ([], ([], ([], ([], tt)))))

abbrev more_lifetimes : Lfts 9
more_lifetimes = ([], ([], ([], ([], lifetimes))))

abbrev place : Place
place = ((0, 0), 0)

module _ {A D R Q N S T : Type 0} (K : Format A D R Q N S T) where
  abbrev C : Core A
  C = K.core

  abbrev F : Arithmetic A
  F = C.arithmetic

  pub merged_said : (d : Pll A) (b : Brought A) → (merged_of F C.matrix d b.table b.mpx b.pilot b.first b.second).said ≡ says_of F d b
  unfolding merged_of
  merged_said d b = block_said F d b

  -- a record for each of the machine's states and summaries, and a reply for each answer, which the contracts
  -- allow; a reply may depend on the record and on what was brought
  pub record Allows : Type 0 where
    pub make : Pll A → D
    pub make_summary : Summary A → S
    pub as_made : (s : Summary A) → K.summary_state (make_summary s) ≡ s
    pub reply_plain : D → Brought A → Answer → D → R
    pub reply_fast : D → Brought A → Answer → D → Q
    pub reply_summary : D → Brought A → Answer → D → S → T
    pub enables : (d : D) → K.enable d (make (enabled_of true (K.state d)))
    pub disables : (d : D) → K.disable d (make (enabled_of false (K.state d)))
    pub resets : (d : D) → K.reset d (make (reset_of F.nought (K.state d)))

  module _ (w : Allows) where
    own_sayable : (d : D) (b : Brought A) → Sayable (says_of F (K.state d) b)
    own_sayable d b = block_sayable F (K.state d) (length b.table) (length b.mpx) (length b.pilot) (length b.first) (length b.second)

    module _ {X : Type 0} (parts : X → Answered D) (reply : D → Brought A → Answer → D → X) where
      -- a block's contract allows the machine's block, and so of the other two sorts
      abbrev pub AllowsBlock : BlockLearnt A D X → Type 0
      AllowsBlock B = (d : D) (b : Brought A) (a : Answer) → let r = own_block F (K.state d) b in
          ◌≡◌ {A = Blocked A} (record { said = says a; sum = r.sum; difference = r.difference; pll = r.pll }) r
          → B lifetimes d (lent place b.table) (lent place b.mpx) (lent place b.pilot) (lent_out place b.first) (lent_out place b.second) (reply d b a (w.make r.pll)) (lent_out place r.sum) (lent_out place r.difference)

      abbrev pub AllowsMerged : BlockLearnt A D X → Type 0
      AllowsMerged B = (d : D) (b : Brought A) (a : Answer) → let r = merged_of F C.matrix (K.state d) b.table b.mpx b.pilot b.first b.second in
          ◌≡◌ {A = Merged A} (record { said = says a; left = r.left; right = r.right; pll = r.pll }) r
          → B lifetimes d (lent place b.table) (lent place b.mpx) (lent place b.pilot) (lent_out place b.first) (lent_out place b.second) (reply d b a (w.make r.pll)) (lent_out place r.left) (lent_out place r.right)

      -- a reply to a block, and what it then leaves
      abbrev reply_to : D → Brought A → Answered D
      reply_to d b = parts (reply d b (own_sayable d b).0 (w.make (own_block F (K.state d) b).pll))

      abbrev left_by : D → Brought A → Left A D
      left_by d b = let r = own_block F (K.state d) b in leaving (reply_to d b).said r.sum r.difference (reply_to d b).decoder

      module _ (B : BlockLearnt A D X) (allows : AllowsBlock B) where
        some_block : (d : D) (b : Brought A) → Leaves K parts B d b (left_by d b)
        some_block d b =
            let r = own_block F (K.state d) b in
            let a = own_sayable d b in
            (lifetimes, (place, place, place, place, place), reply d b a.0 (w.make r.pll), r.sum, r.difference, allows d b a.0 (rw (a.1 ∙ sym (block_said F (K.state d) b))), refl)

        -- the matrix of what a block leaves
        some_matrix : (d : D) (b : Brought A) → (l : Left A D) × MatrixOf K (Leaves K parts B) d b l
        some_matrix d b =
            let r = own_block F (K.state d) b in
            (_, ((reply_to d b).said, r.sum, r.difference, (reply_to d b).decoder, some_block d b, refl))

        -- the summaries of what a block shows
        some_shown : BlockRight K parts B → (d : D) (s : Summary A) (b : Brought A) (c : Columns A) → (l : Left A D) × SummaryBy K (Leaves K parts B) d s b c l
        some_shown right d s b c =
            let r = own_block F (K.state d) b in
            let own = block_leaves K parts B right in
            let said : (reply_to d b).said ≡ says_of F (K.state d) b = ap (λ (l : Left A (Pll A)). l.said) (own d b (left_by d b) (some_block d b)) ∙ block_said F (K.state d) b in (
              _,
              (
                (reply_to d b).said,
                r.sum,
                r.difference,
                (reply_to d b).decoder,
                outcomes_in F (K.state d) b,
                some_block d b,
                (λ h.
                    steps_shown K (Leaves K parts B) own d b (sym said ∙ none_yet (reply_to d b).said h)
                    (λ k. let q = own_block F (K.state d) (first_of k b) in ((reply_to d (first_of k b)).said, q.sum, q.difference, (reply_to d (first_of k b)).decoder, some_block d (first_of k b)))),
                refl,
              ),
            )

      some_merged : (B : BlockLearnt A D X) → AllowsMerged B → (d : D) (b : Brought A) → (l : Left A D) × Leaves K parts B d b l
      some_merged B allows d b =
          let r = merged_of F C.matrix (K.state d) b.table b.mpx b.pilot b.first b.second in
          let a = own_sayable d b in
          (_, (lifetimes, (place, place, place, place, place), reply d b a.0 (w.make r.pll), r.left, r.right, allows d b a.0 (rw (a.1 ∙ sym (merged_said (K.state d) b))), refl))

    abbrev pub AllowsSummary : SummaryLearnt A D S T → Type 0
    AllowsSummary B = (d : D) (s : Summary A) (b : Brought A) (c : Columns A) (a : Answer) → let r = own_summary F C.unsigned (K.state d) s b c in let e = r.columns in
        ◌≡◌ {A = Summarized A} (record { said = says a; sum = r.sum; difference = r.difference; columns = e; pll = r.pll; summary = r.summary }) r
        → B more_lifetimes d (w.make_summary s) (lent place b.table) (lent place b.mpx) (lent place b.pilot) (lent_out place b.first) (lent_out place b.second) (lent_out place c.stereo) (lent_out place c.mono) (lent_out place c.changes) (lent_out place c.magnitude) (w.reply_summary d b a (w.make r.pll) (w.make_summary r.summary)) (lent_out place r.sum) (lent_out place r.difference) (lent_out place e.stereo) (lent_out place e.mono) (lent_out place e.changes) (lent_out place e.magnitude)

    some_summary : (B : SummaryLearnt A D S T) → AllowsSummary B → (d : D) (s : Summary A) (b : Brought A) (c : Columns A) → (l : Left A D) × LeavesSummary K B d s b c l
    some_summary B allows d s b c =
        let r = own_summary F C.unsigned (K.state d) s b c in
        let a = summary_sayable F C.unsigned s (says_of F (K.state d) b) (length b.mpx) c (own_sayable d b) in
        let y = w.reply_summary d b a.0 (w.make r.pll) (w.make_summary r.summary) in
        (_, (more_lifetimes, (place, place, place, place, place, place, place, place, place), w.make_summary s, w.as_made s, y, r.sum, r.difference, r.columns, allows d s b c a.0 (rw (a.1 ∙ sym (summary_said F C.unsigned (K.state d) s b c))), refl))

    -- each sort of block of a decoder leaves something
    record Something (W : Decoder A D) : Type 0 where
      blocks : (d : D) (b : Brought A) → (l : Left A D) × W.block d b l
      mergeds : (d : D) (b : Brought A) → (l : Left A D) × W.merged d b l
      summaries : (d : D) (s : Summary A) (b : Brought A) (c : Columns A) → (l : Left A D) × W.summary d s b c l

    module _ (W : Decoder A D) (some : Something W) where
      one : (d : D) (c : Call A) → (l : Left A D) × May K W d c l
      one d (block b) = some.blocks d b
      one d (merged b) = some.mergeds d b
      one d (summary s b c) = some.summaries d s b c
      one d enable = let e = w.make (enabled_of true (K.state d)) in (done e, (e, w.enables d, refl))
      one d disable = let e = w.make (enabled_of false (K.state d)) in (done e, (e, w.disables d, refl))
      one d reset = let e = w.make (reset_of F.nought (K.state d)) in (done e, (e, w.resets d, refl))

      some_run : (d : D) (cs : List (Call A)) → (ls : List (Left A D)) × Runs K W d cs ls
      some_run d [] = ([], tt)
      some_run d (c ∷ cs) = let l = one d c in let n = some_run l.0.decoder cs in (l.0 ∷ n.0, (l.1, n.1))

    pub plainly : AllowsBlock K.plain_reply w.reply_plain K.plain → BlockRight K K.plain_reply K.plain → (d : D) (cs : List (Call A)) → (ls : List (Left A D)) × Runs K (plain_decoder K) d cs ls
    plainly p right =
        some_run (plain_decoder K)
        (record {
          blocks = λ d b. (left_by K.plain_reply w.reply_plain d b, some_block K.plain_reply w.reply_plain K.plain p d b);
          mergeds = some_matrix K.plain_reply w.reply_plain K.plain p;
          summaries = some_shown K.plain_reply w.reply_plain K.plain p right;
        })

    pub fastly : AllowsBlock K.fast_reply w.reply_fast K.fast → AllowsMerged K.fast_reply w.reply_fast K.merged → AllowsSummary K.summary → (d : D) (cs : List (Call A)) → (ls : List (Left A D)) × Runs K (fast_decoder K) d cs ls
    fastly f m s =
        some_run (fast_decoder K)
        (record {
          blocks = λ d b. (left_by K.fast_reply w.reply_fast d b, some_block K.fast_reply w.reply_fast K.fast f d b);
          mergeds = some_merged K.fast_reply w.reply_fast K.merged m;
          summaries = some_summary K.summary s;
        })
