-- Request 7's claim is proved, of the functions of the fast f32 decoder. Assumes nothing.
use mathlib.Core.Path.{◌≡◌, refl, sym, ap, subst, ◌∙◌}
use mathlib.Core.Bool.{Bool, true}
use mathlib.Core.List.{List, [], ◌∷◌, ◌++◌, append-nil, append_assoc}
use lib.Ieee.{Float, round, add, lt, le, eq}
use Rattle.answers.specs.Answer.{Said, made}
use Rattle.counted.specs.Counted.{Count, count_in, carried}
use Rattle.floats.specs.Floats.{to_format}
use Rattle.phase.specs.Correction.{is_wide}
use Rattle.decoder_record.specs.State.{Pll}
use Rattle.decoder_record.specs.Records.{pll_of_f32}
use Rattle.decoder_record.specs.declared.pll_f32.StereoPllF32.{StereoPllF32}
use Rattle.decoder.specs.F32.{f32}
use Rattle.decoder_fast.specs.Wide.{count_of, block_count}
use Rattle.decoder_fast.specs.declared.FastReply.{FastReply}
use Rattle.summary_record.specs.Record.{Summary}
use Rattle.summary_record.specs.F32.{unsigned_f32}
use Rattle.summary_call.specs.Summary.{Columns}
use Rattle.summary.specs.Wide.{summary_count}
use Rattle.summary.specs.declared.SummarizedF32.{SummarizedF32}
use Rattle.calls.specs.Events.{Event, after}
use Rattle.calls.specs.Calls.{Brought, Call, block, merged, summary, enable, disable, reset, Left, call_of, events_of, samples_of, final, events}
use Rattle.demand.specs.Cores.{core_f32}
use Rattle.calls.specs.Demand.{Arguments, Constructed, fast_decoder, May, Runs, last_record}
use Rattle.calls.proofs.Events.{final_after}
use Rattle.calls.proofs.Steps.{says_of, says_summary, block_said, summary_said}
use Rattle.calls.proofs.Allowed.{merged_said}
use Rattle.calls.proofs.Agreement.{one, last_agrees, fast_blocks, start}
use Rattle.demand.proofs.Demand.{shown_f32}
use Rattle.demand.proofs.Witness.{some_arguments, some_gains, some_record, some_made}
use Rattle.demand.proofs.Functions.{F32}
use Rattle.quick_calls.specs.Quiet.{moderate, unit_since, quiet_of, carried_by, Quiet}
use Rattle.quick_calls.proofs.Calm.{Mild, Calm, calm_new}
use Rattle.quick_calls.proofs.Blocks.{since_append, mild_after, calm_after, quiet_block}

abbrev in_block : FastReply → Count
in_block r = count_in r.answer

abbrev in_summary : SummarizedF32 → Count
in_summary r = count_in r.answer

-- the events of one call more
events_more : (d : Pll Float) (cs : List (Call Float)) (c : Call Float) → events core_f32 d (cs ++ (c ∷ [])) ≡ events core_f32 d cs ++ (events_of core_f32 (final core_f32 d cs) c ++ [])
events_more d [] c = refl
events_more d (e ∷ cs) c =
    let n = (call_of core_f32 d e).decoder in
    ap (λ (l : List (Event Float)). events_of core_f32 d e ++ l) (events_more n cs c)
    ∙ sym (append_assoc (events_of core_f32 d e) (events core_f32 n cs) (events_of core_f32 (final core_f32 n cs) c ++ []))

-- one call, of a decoder with this record
module _ (ok : Bool) (d : StereoPllF32) (m : Mild (pll_of_f32 d).gains) (k : ok ≡ true → Calm (pll_of_f32 d)) where
  of_block_lem : (b : Brought Float) (s : Said) → s ≡ says_of f32 (pll_of_f32 d) b → unit_since ok (samples_of core_f32 s b) ≡ true
      → block_count f32 is_wide (pll_of_f32 d) b.table b.mpx b.pilot b.first b.second ≡ carried s 0
  unfolding block_count
  of_block_lem b s e u = ap (λ (z : Said). count_of f32 is_wide z (pll_of_f32 d) b.table b.mpx b.pilot) (sym e) ∙ quiet_block ok (pll_of_f32 d) b s m k u

  of_summary_lem : (z : Summary Float) (b : Brought Float) (c : Columns Float) (s : Said) → s ≡ says_summary f32 unsigned_f32 (pll_of_f32 d) z b c → unit_since ok (samples_of core_f32 s b) ≡ true
      → summary_count (pll_of_f32 d) z b.table b.mpx b.pilot b.first b.second c ≡ carried s 0
  unfolding summary_count
  of_summary_lem z b c s e u = ap (λ (z : Said). count_of f32 is_wide z (pll_of_f32 d) b.table b.mpx b.pilot) (sym e) ∙ quiet_block ok (pll_of_f32 d) b s m k u

  of_call : (c : Call Float) (l : Left Float StereoPllF32) (h : May F32 (fast_decoder F32) d c l) → unit_since ok (events_of core_f32 (pll_of_f32 d) c) ≡ true
      → carried_by F32 in_block in_summary d c l h ≡ quiet_of c (call_of core_f32 (pll_of_f32 d) c).said
  of_call (block b) l h u = h.5.1 ∙ of_block_lem b (call_of core_f32 (pll_of_f32 d) (block b)).said (block_said f32 (pll_of_f32 d) b) u
  of_call (merged b) l h u = h.5.1 ∙ of_block_lem b (call_of core_f32 (pll_of_f32 d) (merged b)).said (merged_said F32 (pll_of_f32 d) b) u
  of_call (summary s b c) l h u =
      h.8.1
      ∙ ap (λ (z : Summary Float). summary_count (pll_of_f32 d) z b.table b.mpx b.pilot b.first b.second c) h.3
      ∙ of_summary_lem s b c (call_of core_f32 (pll_of_f32 d) (summary s b c)).said (summary_said f32 unsigned_f32 (pll_of_f32 d) s b c) u
  of_call enable l h u = refl
  of_call disable l h u = refl
  of_call reset l h u = refl

quiet : (a : Arguments) (d : StereoPllF32) → Constructed F32 a d → moderate (pll_of_f32 d).gains ≡ true
    → (cs : List (Call Float)) (ls : List (Left Float StereoPllF32)) → Runs F32 (fast_decoder F32) d cs ls
    → (c : Call Float) (l : Left Float StereoPllF32) (h : May F32 (fast_decoder F32) (last_record F32 d ls) c l)
    → unit_since true (events core_f32 (pll_of_f32 d) (cs ++ (c ∷ []))) ≡ true
    → carried_by F32 in_block in_summary (last_record F32 d ls) c l h ≡ quiet_of c l.said
quiet a d w m cs ls r c l h u =
    of_call ok last mild calm c l h now ∙ ap (λ (z : Left Float (Pll Float)). quiet_of c z.said) (sym (one F32 (fast_decoder F32) (fast_blocks F32 shown_f32) shown_f32.sets_right last c l h))
  where
    last : StereoPllF32
    last = last_record F32 d ls

    es : List (Event Float)
    es = events core_f32 (pll_of_f32 d) cs

    ok : Bool
    ok = unit_since true es

    fresh : Calm (pll_of_f32 d)
    fresh = calm_new a.pilot a.natural a.level a.beta a.rate (pll_of_f32 d) (start F32 shown_f32 a d w) m

    ended : pll_of_f32 last ≡ final core_f32 (pll_of_f32 d) cs
    ended = last_agrees F32 (fast_decoder F32) (fast_blocks F32 shown_f32) shown_f32.sets_right d cs ls r

    gone : pll_of_f32 last ≡ after f32 (pll_of_f32 d) es
    gone = ended ∙ final_after core_f32 (pll_of_f32 d) cs

    mild : Mild (pll_of_f32 last).gains
    mild = subst (λ (z : Pll Float). Mild z.gains) (sym gone) (mild_after (pll_of_f32 d) es fresh.mild)

    calm : ok ≡ true → Calm (pll_of_f32 last)
    calm k = subst Calm (sym gone) (calm_after true (pll_of_f32 d) es fresh.mild (λ k. fresh) k)

    now : unit_since ok (events_of core_f32 (pll_of_f32 last) c) ≡ true
    now =
        ap (λ (z : Pll Float). unit_since ok (events_of core_f32 z c)) ended
        ∙ ap (unit_since ok) (sym (append-nil (events_of core_f32 (final core_f32 (pll_of_f32 d) cs) c)))
        ∙ sym (since_append true es (events_of core_f32 (final core_f32 (pll_of_f32 d) cs) c ++ []))
        ∙ ap (unit_since true) (sym (events_more (pll_of_f32 d) cs c))
        ∙ u

some_moderate : moderate (pll_of_f32 some_record).gains ≡ true
unfolding some_gains to_format add le lt eq round
some_moderate = refl

pub request7 : Quiet F32 in_block in_summary
request7 = record { quiet = quiet; some = (some_arguments, some_record, some_made, some_moderate) }
