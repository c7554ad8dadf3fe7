-- The history rule: the decision is that of the levels since the start or the last reset, each taken in turn,
-- and it is stereo exactly when the rule says so. Over the format. Assumes nothing.
use mathlib.Core.Path.{◌≡◌, refl, sym, ap, ◌∙◌}
use mathlib.Core.Logic.{◌⊎◌, inl, inr}
use mathlib.Core.Bool.{Bool, true, false, cond, false≢true}
use mathlib.Core.List.{List, [], ◌∷◌, ◌++◌, append-nil}
use Rattle.decoder_gains.specs.Gains.{Gains}
use Rattle.decoder_record.specs.State.{Pll}
use Rattle.decoder.specs.Machine.{Arithmetic, decide, advanced_by, step_of}
use Rattle.calls.specs.Events.{Event, sample, switch, clear, event_of, after, levels_after, history, NoneUnder, Locked}

module _ {A : Type 0} (F : Arithmetic A) (g : Gains A) where
  -- the decision after a list of levels
  abbrev lock : Bool → List A → Bool
  lock was [] = was
  lock was (v ∷ vs) = lock (decide F v g.on g.off was) vs

  lock_append : (was : Bool) (ls ms : List A) → lock was (ls ++ ms) ≡ lock (lock was ls) ms
  lock_append was [] ms = refl
  lock_append was (v ∷ vs) ms = lock_append (decide F v g.on g.off was) vs ms

  -- ---- from the decision to the rule
  decided : (was : Bool) (v : A) → decide F v g.on g.off was ≡ true → (F.reaches v g.on ≡ true) ⊎ ((was ≡ true) × (F.under v g.off ≡ false))
  decided was v h = go (F.reaches v g.on) refl (F.under v g.off) refl h
    where
      go : (r : Bool) → F.reaches v g.on ≡ r → (u : Bool) → F.under v g.off ≡ u → cond r true (cond u false was) ≡ true → (F.reaches v g.on ≡ true) ⊎ ((was ≡ true) × (F.under v g.off ≡ false))
      go true e u f h = inl e
      go false e true f h = absurd (false≢true h)
      go false e false f h = inr (h, f)

  rises : (was : Bool) (ls : List A) → lock was ls ≡ true → Locked F g.on g.off ls ⊎ ((was ≡ true) × NoneUnder F g.off ls)
  rises was [] h = inr (h, tt)
  rises was (v ∷ vs) h =
      elim (rises (decide F v g.on g.off was) vs h) [
        | inl w ↦ inl (record { before = v ∷ w.before; at = w.at; after = w.after; split = ap (λ (l : List A). v ∷ l) w.split; rose = w.rose; stayed = w.stayed })
        | inr w ↦
            elim (decided was v w.0) [
              | inl r ↦ inl (record { before = []; at = v; after = vs; split = refl; rose = r; stayed = w.1 })
              | inr k ↦ inr (k.0, (k.1, w.1))
            ]
      ]

  locked_if : (ls : List A) → lock false ls ≡ true → Locked F g.on g.off ls
  locked_if ls h = elim (rises false ls h) [ inl w ↦ w | inr w ↦ absurd (false≢true w.0) ]

  -- ---- and back
  stays : (ls : List A) → NoneUnder F g.off ls → lock true ls ≡ true
  stays [] h = refl
  stays (v ∷ vs) h = ap (λ (b : Bool). lock b vs) (go (F.reaches v g.on)) ∙ stays vs h.1
    where
      go : (r : Bool) → cond r true (cond (F.under v g.off) false true) ≡ true
      go true = refl
      go false = rw h.0

  only_if : (ls : List A) → Locked F g.on g.off ls → lock false ls ≡ true
  only_if ls w = rw (w.split, lock_append false w.before (w.at ∷ w.after), w.rose) (stays w.after w.stayed)

-- ---- the machine's decision is that of its levels
module _ {A : Type 0} (F : Arithmetic A) where
  -- no event moves the gains
  same_gains : (d : Pll A) (e : Event A) → (event_of F d e).gains ≡ d.gains
  unfolding step_of advanced_by
  same_gains d (sample t x p) = refl
  same_gains d (switch b) = refl
  same_gains d clear = refl

  -- one event: where a sample's pilot is finite its level decides
  one : (d : Pll A) (e : Event A) (ls : List A) → d.moving.stereo ≡ lock F d.gains false ls → (event_of F d e).moving.stereo ≡ lock F d.gains false (levels_after F d e ls)
  unfolding step_of advanced_by
  one d (sample t x p) ls h = go (F.usable p) refl
    where
      go : (u : Bool) → F.usable p ≡ u → (step_of F t d x p).pll.moving.stereo ≡ lock F d.gains false (ls ++ cond u ((step_of F t d x p).pll.moving.level ∷ []) [])
      go true e = rw (e, lock_append F d.gains false ls, h)
      go false e = rw (e, append-nil ls, h)
  one d (switch b) ls h = h
  one d clear ls h = refl

  explained : (d : Pll A) (ls : List A) (es : List (Event A)) → d.moving.stereo ≡ lock F d.gains false ls → (after F d es).moving.stereo ≡ lock F d.gains false (history F d ls es)
  explained d ls [] h = h
  explained d ls (e ∷ es) h =
      let n = event_of F d e in
      let ms = levels_after F d e ls in
      explained n ms es (one d e ls h ∙ ap (λ (g : Gains A). lock F g false ms) (sym (same_gains d e)))
      ∙ ap (λ (g : Gains A). lock F g false (history F n ms es)) (same_gains d e)

  -- the rule, in both directions, for a decoder that begins at mono
  module _ (d : Pll A) (mono : d.moving.stereo ≡ false) (es : List (Event A)) where
    pub stereo_locked : (after F d es).moving.stereo ≡ true → Locked F d.gains.on d.gains.off (history F d [] es)
    stereo_locked h = locked_if F d.gains (history F d [] es) (sym (explained d [] es mono) ∙ h)

    pub locked_stereo : Locked F d.gains.on d.gains.off (history F d [] es) → (after F d es).moving.stereo ≡ true
    locked_stereo w = explained d [] es mono ∙ only_if F d.gains (history F d [] es) w
