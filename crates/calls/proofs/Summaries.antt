-- Request 4's claims from what each format shows: a decoder's summary calls leave what the machine's leave, and
-- so the summaries of the samples. Over the format. Assumes nothing.
use Prim.Native.Nat.{ℕ, ◌<◌}
use mathlib.Core.Path.{◌≡◌, refl, sym, ap, ◌∙◌, subst}
use mathlib.Core.Bool.{true, cond, ◌&&◌}
use mathlib.Core.List.{List, [], ◌∷◌, map}
use Rattle.answers.specs.Answer.{accepts}
use Rattle.answers.proofs.Causes.{none_yet}
use Rattle.decoder_record.specs.State.{Pll}
use Rattle.decoder.specs.Machine.{Arithmetic}
use Rattle.summary_record.specs.Record.{Summary, fresh_summary, summary_fit}
use Rattle.summary_call.specs.Summary.{Outcome, outcome_of, Figures, Columns, columns_of, Running, through, begun, summary_run}
use Rattle.summary_record.proofs.Fits.{Unsigned, fitted, fit_in}
use Rattle.calls.specs.Events.{after}
use Rattle.calls.specs.Calls.{Core, Brought, Call, Left, events}
use Rattle.calls.specs.Demand.{Decoder, Format, seen, Runs, last_record, plain_decoder, fast_decoder}
use Rattle.calls.specs.Periods.{finished_of, unfinished_of}
use Rattle.calls.specs.Summaries.{summarizes, columns_in, summary_in, Gathered, none, outputs_of, followed, gathered, last_summary, HandedOn, Marked, marked, raw_of, Together, OneCall, Claims, SummaryClaims}
use Rattle.calls.proofs.Events.{final_after}
use Rattle.calls.proofs.Steps.{block_ran, own_summary, summary_said, Ran, summary_ran, outcomes_in, blocked_in}
use Rattle.calls.proofs.Agreement.{SetsRight, BlocksRight, of_block, of_summary, agree, last_agrees, Shown, plain_blocks, fast_blocks}
use Rattle.calls.proofs.Periods.{from_fresh}
use Rattle.calls.proofs.Gathering.{Whole, going_through, fit_through, gathering, ending, all_steps, list_adds, raw_is, marked_steps, all_marked, all_events}

module _ {A D R Q N S T : Type 0} (K : Format A D R Q N S T) where
  abbrev C : Core A
  C = K.core

  abbrev F : Arithmetic A
  F = C.arithmetic

  -- what is read of a call's answer and outputs is read of what is seen of it
  seen_gathers : (cs : List (Call A)) (ls : List (Left A D)) → gathered cs (map (seen K) ls) ≡ gathered cs ls
  seen_gathers [] [] = refl
  seen_gathers [] (l ∷ ls) = refl
  seen_gathers (c ∷ cs) [] = refl
  seen_gathers (c ∷ cs) (l ∷ ls) = ap (followed (cond (summarizes c && accepts l.said) (outputs_of l.outputs) none)) (seen_gathers cs ls)

  seen_last : (s : Summary A) (ls : List (Left A D)) → last_summary s (map (seen K) ls) ≡ last_summary s ls
  seen_last s [] = refl
  seen_last s (l ∷ ls) = seen_last (summary_in s l.outputs) ls

  seen_handed : (s : Summary A) (cs : List (Call A)) (ls : List (Left A D)) → HandedOn s cs ls → HandedOn s cs (map (seen K) ls)
  seen_handed s [] [] h = h
  seen_handed s [] (l ∷ ls) h = h
  seen_handed s (c ∷ cs) [] h = h
  seen_handed s (c ∷ cs) (l ∷ ls) h = (h.0, seen_handed (summary_in s l.outputs) cs ls h.1)

  whole_columns : (period : ℕ) (fs : List (Figures A)) → Whole F period fs → Together K period (columns_of fs).stereo (columns_of fs).mono
  whole_columns period [] h = tt
  whole_columns period (f ∷ fs) h = (h.0, whole_columns period fs h.1)

  module _ (W : Decoder A D) (right : BlocksRight K W) (sets : SetsRight K) (p : Unsigned F C.unsigned) where
    -- what a decoder gathers over a list is what the steps of its summary calls give
    gathers : (d : D) (s : Summary A) (cs : List (Call A)) (ls : List (Left A D)) → Runs K W d cs ls → HandedOn s cs ls
        → (gathered cs ls ≡ gathering F s (all_steps C (K.state d) cs)) × (last_summary s ls ≡ ending F s (all_steps C (K.state d) cs))
    gathers d s cs ls run h =
        let e = agree K W right sets d cs ls run in
        let a = list_adds C (K.state d) s cs (rw e at (seen_handed s cs ls h)) in
        (sym (seen_gathers cs ls) ∙ ap (gathered cs) e ∙ a.0, sym (seen_last s ls) ∙ ap (last_summary s) e ∙ a.1)

    one_call : (d : D) (s : Summary A) (b : Brought A) (c : Columns A) (l : Left A D) → W.summary d s b c l → accepts l.said ≡ true → OneCall K W d s b l
    unfolding summary_run
    one_call d s b c l h a = record {
      whole =
          subst (λ (x : Left A (Pll A)). Together K s.counts.period (columns_in x.outputs).stereo (columns_in x.outputs).mono) (sym left)
          (whole_columns s.counts.period r.finished (going_through F s.counts.period (begun s) os (record { same = refl; whole = tt })).whole);
      taken_again =
          subst (λ (x : Left A (Pll A)). summary_fit F C.unsigned (summary_in s x.outputs) ≡ true) (sym left)
          (fit_in F C.unsigned r.summary (fit_through F p (begun s) os (fitted F C.unsigned s ran.fit)));
      as_block = λ k w.
          ap (λ (x : Left A (Pll A)). of_block K (blocked_in K x)) left
          ∙ sym (right.as_block d b k w ∙ ap (of_block K) (block_ran F m b ran.own));
    }
      where
        m : Pll A
        m = K.state d

        as_own : seen K l ≡ of_summary K (own_summary F C.unsigned m s b c)
        as_own = right.as_summary d s b c l h

        ran : Ran F C.unsigned m s b c
        ran =
            let said = ap (λ (x : Left A (Pll A)). x.said) as_own ∙ summary_said F C.unsigned m s b c in
            summary_ran F C.unsigned m s b c (sym said ∙ none_yet l.said a)

        left : seen K l ≡ of_summary K (summary_run F m s b.table b.mpx b.pilot)
        left = as_own ∙ ap (of_summary K) ran.is_run

        os : List (Outcome A)
        os = outcomes_in F m b

        r : Running A
        r = through F (begun s) os

    history : (d : D) (period : ℕ) (cs : List (Call A)) (ls : List (Left A D)) → 0 < period → Runs K W d cs ls → HandedOn (fresh_summary F period) cs ls
        → let raw = raw_of C (K.state d) cs in
        ((gathered cs ls).columns ≡ columns_of (finished_of F period raw))
        × (last_summary (fresh_summary F period) ls ≡ unfinished_of F period raw)
    history d period cs ls l run h =
        let s = fresh_summary F period in
        let g = gathers d s cs ls run h in
        let all : through F (begun s) (map outcome_of (all_steps C (K.state d) cs)) ≡ record { finished = finished_of F period (raw_of C (K.state d) cs); summary = unfinished_of F period (raw_of C (K.state d) cs) } =
        ap (through F (begun s)) (sym (raw_is C (K.state d) cs)) ∙ from_fresh F period (raw_of C (K.state d) cs) l
        in (
          ap (λ (x : Gathered A). x.columns) g.0 ∙ ap (λ (r : Running A). columns_of r.finished) all,
          g.1 ∙ ap (λ (r : Running A). r.summary) all,
        )

    -- all three are told by the marked events and the state before
    told : (d : D) (s : Summary A) (cs : List (Call A)) (ls : List (Left A D)) → Runs K W d cs ls → HandedOn s cs ls
        → let m = K.state d in
        let xs = marked C m cs in
        (gathered cs ls ≡ gathering F s (marked_steps C m xs))
        × (last_summary s ls ≡ ending F s (marked_steps C m xs))
        × (K.state (last_record K d ls) ≡ after F m (map (λ x. x.event) xs))
    told d s cs ls run h =
        let g = gathers d s cs ls run h in
        let m = K.state d in
        let e = all_marked C m cs in (
          g.0 ∙ ap (gathering F s) e,
          g.1 ∙ ap (ending F s) e,
          last_agrees K W right sets d cs ls run ∙ final_after C m cs ∙ ap (after F m) (all_events C m cs),
        )

    claims : Claims K W
    claims = record {
      one_call = one_call;
      history = history;
      cuts = λ d e s cs ds ls ks same run h run' h' marks-same.
          let x = told d s cs ls run h in
          let y = told e s ds ks run' h' in (
            (x.0 ∙ (λ j. gathering F s (marked_steps C (same j) (marks-same j)))) ∙ sym y.0,
            (x.1 ∙ (λ j. ending F s (marked_steps C (same j) (marks-same j)))) ∙ sym y.1,
            (x.2 ∙ (λ j. after F (same j) (map (λ (x : Marked A). x.event) (marks-same j)))) ∙ sym y.2,
          );
    }

  pub summary_claims : Shown K → SummaryClaims K
  summary_claims s = record {
    plain = claims (plain_decoder K) (plain_blocks K s) s.sets_right s.unsigned_shown;
    fast = claims (fast_decoder K) (fast_blocks K s) s.sets_right s.unsigned_shown;
  }
