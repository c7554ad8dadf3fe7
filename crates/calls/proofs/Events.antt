-- The state after a list of calls is the state after its events; what holds of a state after every event holds
-- after the list. Over the format. Assumes nothing.
use Prim.Native.Nat.{ℕ, zero, suc}
use mathlib.Core.Path.{◌≡◌, refl, sym, ap, ◌∙◌}
use mathlib.Core.List.{List, [], ◌∷◌, ◌++◌}
use lib.ListN.{length, get_or}
use Rattle.answers.specs.Answer.{Said, accepted, turned, lengths, kept}
use Rattle.answers.specs.Samples.{samples}
use Rattle.decoder_record.specs.State.{Pll}
use Rattle.decoder.specs.Machine.{Arithmetic, Blocked, state_at, run_of, block_says, block_of}
use Rattle.merged.specs.Merged.{merged_of}
use Rattle.summary_record.specs.Record.{Summary}
use Rattle.summary_call.specs.Summary.{Columns, Summarized, summary_says, summary_run, summary_of}
use Rattle.calls.specs.Events.{Event, sample, event_of, after}
use Rattle.calls.specs.Calls.{Core, Brought, Call, block, merged, summary, enable, disable, reset, call_of, samples_of, events_of, final, events}

module _ {A : Type 0} (F : Arithmetic A) where
  after_append : (d : Pll A) (es fs : List (Event A)) → after F d (es ++ fs) ≡ after F (after F d es) fs
  after_append d [] fs = refl
  after_append d (e ∷ es) fs = after_append (event_of F d e) es fs

  -- the samples of a block one after the other
  pub after_samples : (t mpx pilot : List A) (d : Pll A) (n : ℕ) → state_at F t mpx pilot d n ≡ after F d (samples n (λ i. sample t (get_or mpx i F.nought) (get_or pilot i F.nought)))
  unfolding state_at samples
  after_samples t mpx pilot d zero = refl
  after_samples t mpx pilot d (suc n) =
      let e : ℕ → Event A = λ i. sample t (get_or mpx i F.nought) (get_or pilot i F.nought) in
      ap (λ (s : Pll A). event_of F s (e n)) (after_samples t mpx pilot d n) ∙ sym (after_append d (samples n e) (e n ∷ []))

module _ {A : Type 0} (C : Core A) where
  abbrev F : Arithmetic A
  F = C.arithmetic

  -- a call that leaves the state after its samples where nothing is turned back, and else the state as it was
  kept_after : {X : Type 0} (said : X → Said) (pll : X → Pll A) (d : Pll A) (b : Brought A) (says : Said) (new old : X)
      → said new ≡ accepted → pll new ≡ (run_of F d b.table b.mpx b.pilot).pll → said old ≡ says → pll old ≡ d
      → pll (kept says new old) ≡ after F d (samples_of C (said (kept says new old)) b)
  unfolding run_of
  kept_after said pll d b accepted new old e p f q =
      p ∙ after_samples F b.table b.mpx b.pilot d (length b.mpx) ∙ ap (λ (s : Said). after F d (samples_of C s b)) (sym e)
  kept_after said pll d b (turned n) new old e p f q = q ∙ ap (λ (s : Said). after F d (samples_of C s b)) (sym f)
  kept_after said pll d b (lengths n x y) new old e p f q = q ∙ ap (λ (s : Said). after F d (samples_of C s b)) (sym f)

  block_after : (d : Pll A) (b : Brought A) → (call_of C d (block b)).decoder ≡ after F d (events_of C d (block b))
  unfolding block_of run_of
  block_after d b = kept_after {X = Blocked A} (λ r. r.said) (λ r. r.pll) d b (block_says F d (length b.table) (length b.mpx) (length b.pilot) (length b.first) (length b.second)) _ _ refl refl refl refl

  summary_after : (d : Pll A) (s : Summary A) (b : Brought A) (c : Columns A) → (call_of C d (summary s b c)).decoder ≡ after F d (events_of C d (summary s b c))
  unfolding summary_of summary_run run_of
  summary_after d s b c =
      let own = block_says F d (length b.table) (length b.mpx) (length b.pilot) (length b.first) (length b.second) in
      kept_after {X = Summarized A} (λ r. r.said) (λ r. r.pll) d b (summary_says F C.unsigned s own (length b.mpx) c) _ _ refl refl refl refl

  pub call_after : (d : Pll A) (c : Call A) → (call_of C d c).decoder ≡ after F d (events_of C d c)
  unfolding merged_of
  call_after d (block b) = block_after d b
  call_after d (merged b) = block_after d b
  call_after d (summary s b c) = summary_after d s b c
  call_after d enable = refl
  call_after d disable = refl
  call_after d reset = refl

  pub final_after : (d : Pll A) (cs : List (Call A)) → final C d cs ≡ after F d (events C d cs)
  final_after d [] = refl
  final_after d (c ∷ cs) =
      let s = (call_of C d c).decoder in
      final_after s cs ∙ ap (λ (z : Pll A). after F z (events C s cs)) (call_after d c) ∙ sym (after_append F d (events_of C d c) (events C s cs))
