-- Request 7's claim for racks is proved: a round of calm decoders with tables and pilots in -1..=1 counts 0 at every
-- place, and every list of such rounds keeps them calm. Assumes nothing.
use Prim.Native.Nat.{ℕ, zero, suc, min}
use mathlib.Core.Path.{◌≡◌, refl, ◌∙◌}
use mathlib.Core.Bool.{true, ◌&&◌}
use mathlib.Core.List.{List, [], ◌∷◌, map}
use lib.ListN.{length, take, get_or}
use lib.Ieee.{Float, lt, le, eq}
use Rattle.answers.specs.Answer.{Said, accepted, turned, lengths, kept}
use Rattle.answers.specs.Samples.{samples}
use Rattle.counted.specs.Counted.{carried, number_in}
use Rattle.phase.specs.Correction.{is_wide}
use Rattle.decoder_gains.specs.Gains.{nought}
use Rattle.decoder_record.specs.State.{Pll}
use Rattle.decoder.specs.Machine.{block_says}
use Rattle.decoder.specs.F32.{f32}
use Rattle.decoder_fast.specs.Wide.{wide_up_to, block_count}
use Rattle.rack_waiting.specs.Beside.{beside, over}
use Rattle.rack_waiting.specs.Waiting.{round_says}
use Rattle.rack_round.specs.Round.{Queue, waiting_of}
use Rattle.rack_round.specs.Wide.{turn_wide, round_wide}
use Rattle.calls.specs.Events.{Event, sample, unit_table}
use Rattle.rounds.specs.Rounds.{Asked, share_of, after}
use Rattle.rounds.specs.Fit.{All}
use Rattle.rounds.proofs.Kept.{all_at, all_take, all_by, kept_always}
use Rattle.quick_calls.specs.Quiet.{unit, unit_since}
use Rattle.quick_calls.specs.Rounds.{Fresh, UnitRound, QuietRounds}
use Rattle.quick_calls.proofs.Calm.{Calm, calm_new, calm_next}
use Rattle.quick_calls.proofs.Blocks.{since_append, none_wide}

abbrev UnitSample : Float → Type 0
UnitSample p = unit p ≡ true

abbrev UnitQueue : Queue Float → Type 0
UnitQueue q = All UnitSample q.pilot

nought_unit : unit nought ≡ true
unfolding le lt eq
nought_unit = refl

-- a block's samples, from the start on
module _ (t mpx pilot : List Float) (h : unit_table t ≡ true) (u : All UnitSample pilot) where
  abbrev at : ℕ → Event Float
  at i = sample t (get_or mpx i nought) (get_or pilot i nought)

  unit_samples : (n : ℕ) → unit_since true (samples n at) ≡ true
  unfolding samples
  unit_samples zero = refl
  unit_samples (suc n) =
      since_append true (samples n at) (at n ∷ [])
      ∙ (λ i. unit_samples n i && (h i && all_at UnitSample nought nought_unit pilot n u i))

-- one turn: whether its block is accepted or not
no_count : (s : Said) (n : ℕ) → n ≡ 0 → number_in (carried s n) ≡ 0
no_count accepted n e = e
no_count (turned k) n e = refl
no_count (lengths k wanted found) n e = refl

module _ (t : List Float) (share : ℕ) (h : unit_table t ≡ true) where
  turn_quiet : (d : Pll Float) (q : Queue Float) → Calm d → UnitQueue q → turn_wide t share d q ≡ 0
  unfolding turn_wide block_count
  turn_quiet d q c u =
      let n = min share (length q.mpx) in
      let x = take n q.mpx in
      let p = take n q.pilot in
      let y = take n q.sum in
      let z = take n q.difference in
      no_count (block_says f32 d (length t) (length x) (length p) (length y) (length z)) (wide_up_to f32 is_wide t x p d (length x))
      (none_wide true t x p d c.mild (λ ok. c) (length x) (unit_samples t x p h (all_take UnitSample n q.pilot u) (length x)))

  -- the turns of a round, and the places past them
  turns_quiet : (n : ℕ) (ds : List (Pll Float)) (qs : List (Queue Float)) → All Calm ds → All UnitQueue qs
      → over (beside (turn_wide t share) n ds qs) (map (λ q. 0) qs) ≡ map (λ q. 0) qs
  unfolding beside
  turns_quiet zero ds qs c u = refl
  turns_quiet (suc n) [] qs c u = refl
  turns_quiet (suc n) (d ∷ ds) [] c u = refl
  turns_quiet (suc n) (d ∷ ds) (q ∷ qs) c u = λ i. turn_quiet d q c.0 u.0 i ∷ turns_quiet n ds qs c.1 u.1 i

round_quiet : (ds : List (Pll Float)) (a : Asked Float) → All Calm ds → UnitRound a
    → round_wide a.number a.allowance a.table ds a.queues ≡ map (λ q. 0) a.queues
unfolding round_wide
round_quiet ds a c u = go (round_says a.number a.allowance (length a.table) (map f32.fit ds) (map waiting_of a.queues))
  where
    go : (s : Said) → over (kept s (beside (turn_wide a.table (share_of a)) a.number ds a.queues) []) (map (λ q. 0) a.queues) ≡ map (λ q. 0) a.queues
    go accepted = turns_quiet a.table (share_of a) u.0 a.number ds a.queues c u.1
    go (turned k) = refl
    go (lengths k wanted found) = refl

-- every list of rounds
fresh_calm : (d : Pll Float) → Fresh d → Calm d
fresh_calm d f = calm_new f.0 f.1 f.2 f.3 f.4 d f.5 f.6

calm_always : (ds : List (Pll Float)) (cs : List (Asked Float)) → All Calm ds → All UnitRound cs → All Calm (after f32 ds cs)
calm_always = kept_always f32 Calm (λ t. unit_table t ≡ true) UnitSample nought_unit (λ t d x p h u. calm_next t d x p h)

pub quiet_rounds : QuietRounds
quiet_rounds = record { quiet = λ ds cs a f us u. round_quiet (after f32 ds cs) a (calm_always ds cs (all_by Fresh Calm fresh_calm ds f) us) u }
