-- No correction of a block takes the wide way whose samples, and those before it since the start or the last
-- reset, are in -1..=1. Assumes nothing.
use Prim.Native.Nat.{ℕ, zero, suc, ◌+◌}
use mathlib.Core.Path.{◌≡◌, refl, sym, ap, subst, ◌∙◌}
use mathlib.Core.Bool.{Bool, true, false, not, ◌&&◌, cond}
use mathlib.Core.List.{List, [], ◌∷◌, ◌++◌}
use lib.ListN.{length, get_or}
use lib.Ieee.{Float}
use Rattle.answers.specs.Answer.{Said, accepted, turned, lengths}
use Rattle.answers.specs.Samples.{samples}
use Rattle.answers.proofs.Tests.{and_out}
use Rattle.counted.specs.Counted.{Count, count, carried}
use Rattle.phase.specs.Correction.{is_wide}
use Rattle.decoder_gains.specs.Gains.{nought}
use Rattle.decoder_record.specs.State.{Pll, enabled_of, reset_of}
use Rattle.decoder.specs.Machine.{step_of, state_at}
use Rattle.decoder.specs.F32.{f32}
use Rattle.decoder_fast.specs.Wide.{wide_up_to, count_of}
use Rattle.calls.specs.Events.{Event, sample, switch, clear, event_of, after, unit_table}
use Rattle.calls.specs.Calls.{Brought, samples_of}
use Rattle.demand.specs.Cores.{core_f32}
use Rattle.calls.proofs.Events.{after_samples}
use Rattle.quick_calls.specs.Quiet.{unit, unit_since}
use Rattle.quick_calls.proofs.Calm.{Mild, Calm, calm_next, calm_switch, mild_next, calm_reset, quick_step}

pub since_append : (ok : Bool) (es fs : List (Event Float)) → unit_since ok (es ++ fs) ≡ unit_since (unit_since ok es) fs
since_append ok [] fs = refl
since_append ok (sample t x p ∷ es) fs = since_append (ok && (unit_table t && unit p)) es fs
since_append ok (switch b ∷ es) fs = since_append ok es fs
since_append ok (clear ∷ es) fs = since_append true es fs

-- the gains stay, and the state is calm after samples that are
pub mild_after : (d : Pll Float) (es : List (Event Float)) → Mild d.gains → Mild (after f32 d es).gains
mild_after d [] m = m
mild_after d (sample t x p ∷ es) m = mild_after (step_of f32 t d x p).pll es (mild_next t d x p m)
mild_after d (switch b ∷ es) m = mild_after (enabled_of b d) es m
mild_after d (clear ∷ es) m = mild_after (reset_of nought d) es m

pub calm_after : (ok : Bool) (d : Pll Float) (es : List (Event Float)) → Mild d.gains → (ok ≡ true → Calm d) → unit_since ok es ≡ true → Calm (after f32 d es)
calm_after ok d [] m c u = c u
calm_after ok d (sample t x p ∷ es) m c u =
    calm_after (ok && (unit_table t && unit p)) (step_of f32 t d x p).pll es (mild_next t d x p m)
    (λ h. let a = and_out ok (unit_table t && unit p) h in calm_next t d x p (and_out (unit_table t) (unit p) a.1).0 (c a.0)) u
calm_after ok d (switch b ∷ es) m c u = calm_after ok (enabled_of b d) es m (λ h. calm_switch d b (c h)) u
calm_after ok d (clear ∷ es) m c u = calm_after true (reset_of nought d) es m (λ h. calm_reset d m) u

module _ (ok : Bool) (t mpx pilot : List Float) (d : Pll Float) (m : Mild d.gains) (c : ok ≡ true → Calm d) where
  abbrev at : ℕ → Event Float
  at i = sample t (get_or mpx i nought) (get_or pilot i nought)

  -- none of the first n
  pub none_wide : (n : ℕ) → unit_since ok (samples n at) ≡ true → wide_up_to f32 is_wide t mpx pilot d n ≡ 0
  unfolding wide_up_to samples
  none_wide zero u = refl
  none_wide (suc n) u =
      let a = and_out (unit_since ok (samples n at)) (unit_table t && unit (get_or pilot n nought)) (sym (since_append ok (samples n at) (at n ∷ [])) ∙ u) in
      let b = and_out (unit_table t) (unit (get_or pilot n nought)) a.1 in
      let calm = subst Calm (sym (after_samples f32 t mpx pilot d n)) (calm_after ok d (samples n at) m c a.0) in
      rw (quick_step t (state_at f32 t mpx pilot d n) (get_or pilot n nought) b.0 b.1 calm, none_wide n a.0)

-- .. so that its answer carries 0
pub quiet_block : (ok : Bool) (d : Pll Float) (b : Brought Float) (s : Said) → Mild d.gains → (ok ≡ true → Calm d)
    → unit_since ok (samples_of core_f32 s b) ≡ true → count_of f32 is_wide s d b.table b.mpx b.pilot ≡ carried s 0
quiet_block ok d b accepted m c u = ap count (none_wide ok b.table b.mpx b.pilot d m c (length b.mpx) u)
quiet_block ok d b (turned n) m c u = refl
quiet_block ok d b (lengths n x y) m c u = refl
