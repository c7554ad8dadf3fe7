-- Request 6's claims: no decoder of a rack changes or starves another, over every list of rounds. Source: document
-- 02, request 6. Definitions only. proofs/Claims.antt proves them, for any arithmetic.
use Rattle.std.specs.Prelude.{ℕ, ◌+◌, ◌-◌, ◌*◌, ◌/◌, ◌≤◌, ◌<◌, min, true, false, cond, List, [], ◌∷◌, ◌++◌, map, ◌≡◌, length, take, drop, get_or}
use Rattle.answers.specs.Answer.{accepts, entries}
use Rattle.decoder_record.specs.State.{Pll}
use Rattle.decoder.specs.Machine.{Arithmetic, Blocked, run_of, block_of}
use Rattle.rack_waiting.specs.declared.Waiting.{Waiting}
use Rattle.rack_round.specs.Round.{Queue, Turned, turn_of, Rounded, round_of}
use Rattle.rack_round.specs.Flat.{queues_of, flat_of}

-- a round as it is asked for, with all but the records
pub record Asked (A : Type 0) : Type 0 where
  pub number : ℕ
  pub allowance : ℕ
  pub table : List A
  pub queues : List (Queue A)

abbrev pub share_of : {A : Type 0} → Asked A → ℕ
share_of a = a.allowance / a.number

-- the places of a rack
abbrev pub Eight : {X : Type 0} → List X → Type 0
Eight l = length l ≡ 8

-- nothing waits
abbrev pub none : {A : Type 0} → Queue A
none = record { mpx = []; pilot = []; sum = []; difference = [] }

-- what the decoder at place k leaves of a round; z stands for a record past the end
abbrev pub leaves_at : {A : Type 0} → Pll A → Rounded A → ℕ → Turned A
leaves_at z r k = record {
  taken = get_or r.taken k 0;
  sum = get_or r.sums k [];
  difference = get_or r.differences k [];
  pll = get_or r.decoders k z;
}

-- .. if it has no turn
abbrev pub untouched_at : {A : Type 0} → Pll A → List (Pll A) → List (Queue A) → ℕ → Turned A
untouched_at z ds qs k =
    let q = get_or qs k none in
    record { taken = 0; sum = q.sum; difference = q.difference; pll = get_or ds k z }

-- what a block leaves, without its answer
pub record Decoded (A : Type 0) : Type 0 where
  pub sum : List A
  pub difference : List A
  pub pll : Pll A

abbrev pub decoded_of : {A : Type 0} → Blocked A → Decoded A
decoded_of b = record { sum = b.sum; difference = b.difference; pll = b.pll }

-- w divided by s, rounded up
abbrev pub rounds_for : ℕ → ℕ → ℕ
rounds_for w s = (w + (s - 1)) / s

module _ {A : Type 0} (F : Arithmetic A) where
  -- a round with the records ds, and the records after a list of rounds
  abbrev pub asked_of : List (Pll A) → Asked A → Rounded A
  asked_of ds a = round_of F a.number a.allowance a.table ds a.queues

  abbrev pub after : List (Pll A) → List (Asked A) → List (Pll A)
  after ds [] = ds
  after ds (c ∷ cs) = after (asked_of ds c).decoders cs

  -- how many of them are accepted
  abbrev pub accepted_in : List (Pll A) → List (Asked A) → ℕ
  accepted_in ds [] = 0
  accepted_in ds (c ∷ cs) = cond (accepts (asked_of ds c).said) 1 0 + accepted_in (asked_of ds c).decoders cs

  -- number, allowance and table stay the same, and the decoder at k brings in each round the samples of mpx and
  -- pilot from the first untaken one on, of which n are taken before; nothing is said of the others
  abbrev pub Brings : Asked A → ℕ → List A → List A → ℕ → List (Pll A) → List (Asked A) → Type 0
  Brings first k mpx pilot n ds [] = Unit {0}
  Brings first k mpx pilot n ds (c ∷ cs) =
      let q = get_or c.queues k none in
      let r = asked_of ds c in
      (c.number ≡ first.number)
      × (c.allowance ≡ first.allowance)
      × (c.table ≡ first.table)
      × Eight c.queues
      × (q.mpx ≡ drop n mpx)
      × (q.pilot ≡ drop n pilot)
      × Brings first k mpx pilot (n + get_or r.taken k 0) r.decoders cs

  -- how many samples it takes in all, and what its outputs hold for these, one round after the other
  abbrev pub taken_in : ℕ → List (Pll A) → List (Asked A) → ℕ
  taken_in k ds [] = 0
  taken_in k ds (c ∷ cs) = let r = asked_of ds c in get_or r.taken k 0 + taken_in k r.decoders cs

  abbrev pub sums_in : ℕ → List (Pll A) → List (Asked A) → List A
  sums_in k ds [] = []
  sums_in k ds (c ∷ cs) = let r = asked_of ds c in take (get_or r.taken k 0) (get_or r.sums k []) ++ sums_in k r.decoders cs

  abbrev pub differences_in : ℕ → List (Pll A) → List (Asked A) → List A
  differences_in k ds [] = []
  differences_in k ds (c ∷ cs) =
      let r = asked_of ds c in
      take (get_or r.taken k 0) (get_or r.differences k []) ++ differences_in k r.decoders cs

  -- ---- one round
  pub record OneRound : Type 0 where
    -- a decoder of an accepted round leaves what its turn alone leaves: whatever the other places hold
    pub alone : (z : Pll A) (ds : List (Pll A)) (a : Asked A) (k : ℕ) → Eight ds → Eight a.queues
        → accepts (asked_of ds a).said ≡ true → k < a.number
        → leaves_at z (asked_of ds a) k ≡ turn_of F a.table (share_of a) (get_or ds k z) (get_or a.queues k none)
    -- so it is the same in two accepted rounds with the same table, share, record and queue, at any places of
    -- racks of any numbers
    pub apart : (z : Pll A) (ds es : List (Pll A)) (a b : Asked A) (j k : ℕ)
        → Eight ds → Eight es → Eight a.queues → Eight b.queues
        → accepts (asked_of ds a).said ≡ true → accepts (asked_of es b).said ≡ true → j < a.number → k < b.number
        → a.table ≡ b.table → share_of a ≡ share_of b
        → get_or ds j z ≡ get_or es k z → get_or a.queues j none ≡ get_or b.queues k none
        → leaves_at z (asked_of ds a) j ≡ leaves_at z (asked_of es b) k
    -- a place past the number stays as it was, and in a refused round every place does
    pub past : (z : Pll A) (ds : List (Pll A)) (a : Asked A) (k : ℕ)
        → a.number ≤ k → leaves_at z (asked_of ds a) k ≡ untouched_at z ds a.queues k
    pub refused : (z : Pll A) (ds : List (Pll A)) (a : Asked A) (k : ℕ)
        → accepts (asked_of ds a).said ≡ false → leaves_at z (asked_of ds a) k ≡ untouched_at z ds a.queues k
    -- in flat lists the outputs that a round leaves lie where the queues lay
    pub in_place : (number allowance : ℕ) (t : List A) (ds : List (Pll A)) (ws : List Waiting) (flat : Queue A) → Eight ds
        → let r = round_of F number allowance t ds (queues_of ws flat) in
        let f = flat_of F number allowance t ds ws flat in
        let qs = queues_of ws (record { mpx = flat.mpx; pilot = flat.pilot; sum = f.sum; difference = f.difference }) in
        (map (λ q. q.sum) qs ≡ r.sums) × (map (λ q. q.difference) qs ≡ r.differences)

  -- ---- lists of rounds: after n accepted rounds the decoder at k, which was d, has worked m of its w samples
  pub record Served (d e : Pll A) (t mpx pilot sums differences : List A) (n s m : ℕ) : Type 0 where
    pub taken : m ≡ min (n * s) (length mpx)
    -- all of them, once w divided by the share, rounded up, rounds are accepted, and no sooner
    pub enough : rounds_for (length mpx) s ≤ n → m ≡ length mpx
    pub no_sooner : n < rounds_for (length mpx) s → m < length mpx
    -- it is e then, and its outputs are those of one run over these samples
    pub as_one : record { sum = sums; difference = differences; pll = e } ≡ decoded_of (run_of F d t (take m mpx) (take m pilot))
    -- .. so that once all are worked a single block over them leaves the same
    pub as_block : (y z : List A) → rounds_for (length mpx) s ≤ n → accepts (block_of F d t mpx pilot y z).said ≡ true
        → record { sum = sums; difference = differences; pll = e } ≡ decoded_of (block_of F d t mpx pilot y z)

  -- no decoder is kept from its share: this holds whatever the others bring
  abbrev pub NoStarving : Type 0
  NoStarving =
      (z : Pll A) (ds : List (Pll A)) (first : Asked A) (cs : List (Asked A)) (k : ℕ) (mpx pilot : List A)
      → Eight ds → k < first.number → 0 < share_of first → Brings first k mpx pilot 0 ds cs
      → Served (get_or ds k z) (get_or (after ds cs) k z) first.table mpx pilot (sums_in k ds cs) (differences_in k ds cs)
      (accepted_in ds cs) (share_of first) (taken_in k ds cs)

  -- and this says something: such rounds may be accepted any number of times (in f32, where every record is fit)
  abbrev pub SomeRounds : Type 0
  SomeRounds =
      (ds : List (Pll A)) (first : Asked A) (k m : ℕ) (mpx pilot : List A)
      → k < 8 → 2 ≤ first.number → first.number ≤ 8 → first.number ≤ first.allowance
      → length first.table ≡ entries → length pilot ≡ length mpx
      → (cs : List (Asked A)) × Brings first k mpx pilot 0 ds cs × (accepted_in ds cs ≡ m)
