-- The lists of rounds that the claims speak of exist: any number of accepted rounds in which a decoder brings its
-- samples from the first untaken one on. Assumes nothing.
use Prim.Native.Nat.{ℕ, zero, suc, ◌+◌, ◌-◌, ◌≤◌, ◌<◌}
use native.Mathlib.Omega.{arith}
use mathlib.Core.Path.{◌≡◌, refl, sym, ap, ◌∙◌}
use mathlib.Core.Bool.{true}
use mathlib.Core.List.{List, [], ◌∷◌, map}
use borrow.Author.Tests.{eq-eqb}
use lib.ListN.{length, drop, get_or, replicate, length-replicate, get_or-replicate, length-drop}
use lib.Ieee.{Float}
use Rattle.answers.specs.Answer.{accepted, accepts, first_cause, entries}
use Rattle.decoder_record.specs.State.{Pll}
use Rattle.decoder.specs.F32.{f32}
use Rattle.rack_waiting.specs.declared.Waiting.{Waiting}
use Rattle.rack_waiting.specs.Beside.{beside}
use Rattle.rack_waiting.specs.Waiting.{cause_of}
use Rattle.rack_waiting.proofs.Answers.{decoders_decide}
use Rattle.rack_round.specs.Round.{Queue, waiting_of}
use Rattle.rounds.specs.Rounds.{Asked, none, asked_of, accepted_in, Brings}
use Rattle.rounds.specs.Fit.{All}
use Rattle.rounds.proofs.Places.{round_said}

-- all four equally long
abbrev Alike : Waiting → Type 0
Alike w = (w.pilot ≡ w.mpx) × (w.sum ≡ w.mpx) × (w.difference ≡ w.mpx)

cause_none : (table : ℕ) (w : Waiting) → table ≡ entries → Alike w → cause_of table true w ≡ accepted
cause_none table w e h = rw (e, h.0, h.1, h.2, eq-eqb w.mpx w.mpx refl)

causes_none : (table : ℕ) {X : Type 0} (n : ℕ) (xs : List X) (ws : List Waiting) → table ≡ entries → All Alike ws
    → first_cause (beside (cause_of table) n (map (λ (x : X). true) xs) ws) ≡ accepted
unfolding beside
causes_none table zero xs ws e h = refl
causes_none table (suc n) [] ws e h = refl
causes_none table (suc n) (x ∷ xs) [] e h = refl
causes_none table (suc n) (x ∷ xs) (w ∷ ws) e h = rw (cause_none table w e h.0) (causes_none table n xs ws e h.1)

module _ (first : Asked Float) (k : ℕ) (mpx pilot : List Float) (hk : k < 8) where
  -- every decoder brings the same samples
  queue : ℕ → Queue Float
  queue n = record { mpx = drop n mpx; pilot = drop n pilot; sum = drop n mpx; difference = drop n mpx }

  round : ℕ → Asked Float
  round n = record { number = first.number; allowance = first.allowance; table = first.table; queues = replicate 8 (queue n) }

  rounds : ℕ → ℕ → List (Pll Float) → List (Asked Float)
  rounds zero n ds = []
  rounds (suc m) n ds = let r = asked_of f32 ds (round n) in round n ∷ rounds m (n + get_or r.taken k 0) r.decoders

  brings : (m n : ℕ) (ds : List (Pll Float)) → Brings f32 first k mpx pilot n ds (rounds m n ds)
  unfolding rounds round queue
  brings zero n ds = tt
  brings (suc m) n ds =
      let q = get_or-replicate 8 k (queue n) none hk in
      let r = asked_of f32 ds (round n) in (
        refl,
        refl,
        refl,
        length-replicate 8 (queue n),
        ap (λ (x : Queue Float). x.mpx) q,
        ap (λ (x : Queue Float). x.pilot) q,
        brings m (n + get_or r.taken k 0) r.decoders,
      )

  module _ (h2 : 2 ≤ first.number) (h8 : first.number ≤ 8) (ha : first.number ≤ first.allowance) (ht : length first.table ≡ entries)
      (hp : length pilot ≡ length mpx) where
    alike : (n m : ℕ) → All Alike (map waiting_of (replicate m (queue n)))
    unfolding queue
    alike n zero = tt
    alike n (suc m) = ((long n, refl, refl), alike n m)
      where
        long : (n : ℕ) → length (drop n pilot) ≡ length (drop n mpx)
        long n = length-drop n pilot ∙ ap (λ (l : ℕ). l - n) hp ∙ sym (length-drop n mpx)

    all_accepted : (n : ℕ) (ds : List (Pll Float)) → accepts (asked_of f32 ds (round n)).said ≡ true
    unfolding round
    all_accepted n ds =
        ap accepts
        (round_said f32 ds (round n)
        ∙ sym (decoders_decide first.number first.allowance (length first.table) (map f32.fit ds) (map waiting_of (replicate 8 (queue n))) h2 h8 ha)
        ∙ causes_none (length first.table) first.number ds (map waiting_of (replicate 8 (queue n))) ht (alike n 8))

    counted : (m n : ℕ) (ds : List (Pll Float)) → accepted_in f32 ds (rounds m n ds) ≡ m
    unfolding rounds
    counted zero n ds = refl
    counted (suc m) n ds = rw (all_accepted n ds, counted m (n + get_or (asked_of f32 ds (round n)).taken k 0) (asked_of f32 ds (round n)).decoders) (one m)
      where
        one : (m : ℕ) → 1 + m ≡ suc m
        one m = omega arith

    pub some_rounds : (m : ℕ) (ds : List (Pll Float)) → (cs : List (Asked Float)) × Brings f32 first k mpx pilot 0 ds cs × (accepted_in f32 ds cs ≡ m)
    some_rounds m ds = (rounds m 0 ds, brings m 0 ds, counted m 0 ds)
