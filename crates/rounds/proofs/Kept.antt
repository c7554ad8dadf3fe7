-- What each sample keeps of a record, every list of rounds keeps: over the format, a property P of the record, what
-- T is asked of a table and what S of a pilot sample. Assumes nothing.
use Prim.Native.Nat.{ℕ, zero, suc, min}
use mathlib.Core.Path.{◌≡◌, refl}
use mathlib.Core.Bool.{Bool, true, false}
use mathlib.Core.List.{List, [], ◌∷◌, map}
use lib.ListN.{length, take, get_or}
use Rattle.answers.specs.Answer.{Said, accepted, turned, lengths, accepts, kept}
use Rattle.decoder_record.specs.State.{Pll}
use Rattle.decoder.specs.Machine.{Arithmetic, step_of, state_at, run_of, block_says, block_of}
use Rattle.rack_waiting.specs.Beside.{beside, over}
use Rattle.rack_round.specs.Round.{Queue, turn_of}
use Rattle.rounds.specs.Rounds.{Asked, share_of, asked_of, after}
use Rattle.rounds.specs.Fit.{All}
use Rattle.rounds.proofs.Places.{by_turns}

-- ---- lists
module _ {X : Type 0} (P : X → Type 0) where
  -- also past the end, if z has P
  pub all_at : (z : X) → P z → (l : List X) (i : ℕ) → All P l → P (get_or l i z)
  all_at z hz [] i h = hz
  all_at z hz (x ∷ l) zero h = h.0
  all_at z hz (x ∷ l) (suc i) h = all_at z hz l i h.1

  pub all_take : (n : ℕ) (l : List X) → All P l → All P (take n l)
  all_take zero l h = tt
  all_take (suc n) [] h = tt
  all_take (suc n) (x ∷ l) h = (h.0, all_take n l h.1)

  pub all_by : (Q : X → Type 0) → ((x : X) → P x → Q x) → (l : List X) → All P l → All Q l
  all_by Q f [] h = tt
  all_by Q f (x ∷ l) h = (f x h.0, all_by Q f l h.1)

-- ---- rounds
module _ {A : Type 0} (F : Arithmetic A) (P : Pll A → Type 0) (T : List A → Type 0) (S : A → Type 0) (nought : S F.nought)
    (next : (t : List A) (d : Pll A) (x p : A) → T t → S p → P d → P (step_of F t d x p).pll) where
  -- the samples of a block
  state_kept : (t x p : List A) (d : Pll A) (i : ℕ) → T t → All S p → P d → P (state_at F t x p d i)
  unfolding state_at
  state_kept t x p d zero ht a h = h
  state_kept t x p d (suc i) ht a h =
      next t (state_at F t x p d i) (get_or x i F.nought) (get_or p i F.nought) ht (all_at S F.nought nought p i a) (state_kept t x p d i ht a h)

  block_kept : (t x p y z : List A) (d : Pll A) → T t → All S p → P d → P (block_of F d t x p y z).pll
  unfolding block_of run_of
  block_kept t x p y z d ht a h = go (block_says F d (length t) (length x) (length p) (length y) (length z))
    where
      go : (s : Said) → P (kept s (run_of F d t x p) (record { said = s; sum = y; difference = z; pll = d })).pll
      go accepted = state_kept t x p d (length x) ht a h
      go (turned n) = h
      go (lengths n v w) = h

  turn_kept : (t : List A) (share : ℕ) (d : Pll A) (q : Queue A) → T t → All S q.pilot → P d → P (turn_of F t share d q).pll
  unfolding turn_of
  turn_kept t share d q ht a h =
      let n = min share (length q.mpx) in
      block_kept t (take n q.mpx) (take n q.pilot) (take n q.sum) (take n q.difference) d ht (all_take S n q.pilot a) h

  -- the turns of a round, and the records past them
  turns_kept : (t : List A) (share n : ℕ) (ds : List (Pll A)) (qs : List (Queue A)) → T t → All (λ (q : Queue A). All S q.pilot) qs → All P ds
      → All P (over (map (λ u. u.pll) (beside (turn_of F t share) n ds qs)) ds)
  unfolding beside
  turns_kept t share zero ds qs ht a h = h
  turns_kept t share (suc n) [] qs ht a h = tt
  turns_kept t share (suc n) (d ∷ ds) [] ht a h = h
  turns_kept t share (suc n) (d ∷ ds) (q ∷ qs) ht a h = (turn_kept t share d q ht a.0 h.0, turns_kept t share n ds qs ht a.1 h.1)

  -- what is asked of a round
  abbrev pub Suits : Asked A → Type 0
  Suits c = T c.table × All (λ (q : Queue A). All S q.pilot) c.queues

  round_kept : (ds : List (Pll A)) (c : Asked A) → Suits c → All P ds → All P (asked_of F ds c).decoders
  round_kept ds c s h = by (accepts (asked_of F ds c).said) refl
    where
      by : (b : Bool) → accepts (asked_of F ds c).said ≡ b → All P (asked_of F ds c).decoders
      by true e = rw (by_turns F ds c true e) (turns_kept c.table (share_of c) c.number ds c.queues s.0 s.1 h)
      by false e = rw (by_turns F ds c false e) h

  pub kept_always : (ds : List (Pll A)) (cs : List (Asked A)) → All P ds → All Suits cs → All P (after F ds cs)
  kept_always ds [] h s = h
  kept_always ds (c ∷ cs) h s = kept_always (asked_of F ds c).decoders cs (round_kept ds c s.0 h) s.1
