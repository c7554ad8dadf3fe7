-- What a round leaves at one place of a rack, over the format. Assumes nothing.
use Prim.Native.Nat.{ℕ, zero, suc, ◌+◌, ◌-◌, ◌≤◌, ◌<◌}
use native.Mathlib.Omega.{arith}
use mathlib.Core.Path.{◌≡◌, refl, sym, ap, ◌∙◌}
use mathlib.Core.Bool.{Bool, true, false, cond}
use mathlib.Core.List.{List, [], ◌∷◌, map}
use lib.ListN.{length, drop, get_or, length-map, get_or-map, get_or-append}
use lib.Seq.{get_or-append-add, get_or-drop}
use Rattle.answers.specs.Answer.{Said, accepts, first_cause}
use Rattle.answers.proofs.Causes.{both}
use Rattle.decoder_record.specs.State.{Pll}
use Rattle.decoder.specs.Machine.{Arithmetic}
use Rattle.rack_waiting.specs.Beside.{beside, over}
use Rattle.rack_waiting.specs.Waiting.{cause_of, round_says}
use Rattle.rack_waiting.proofs.Beside.{length_beside}
use Rattle.rack_waiting.proofs.Agreement.{Accepted, accepted_round}
use Rattle.rack_round.specs.Round.{Queue, waiting_of, Turned, turn_of, Rounded, round_of}
use Rattle.rounds.specs.Rounds.{Asked, share_of, Eight, none, leaves_at, untouched_at, asked_of}

module _ {A B C : Type 0} (f : A → B → C) where
  pub map_beside : {D : Type 0} (g : C → D) (n : ℕ) (xs : List A) (ys : List B) → map g (beside f n xs ys) ≡ beside (λ x y. g (f x y)) n xs ys
  unfolding beside
  map_beside g zero xs ys = refl
  map_beside g (suc n) [] ys = refl
  map_beside g (suc n) (x ∷ xs) [] = refl
  map_beside {D} g (suc n) (x ∷ xs) (y ∷ ys) = ap (λ (l : List D). g (f x y) ∷ l) (map_beside g n xs ys)

  pub beside_get : (n k : ℕ) (xs : List A) (ys : List B) (x : A) (y : B) (c : C) → k < n → k < length xs → k < length ys
      → get_or (beside f n xs ys) k c ≡ f (get_or xs k x) (get_or ys k y)
  unfolding beside
  beside_get zero k xs ys x y c hn hx hy = absurd (omega arith)
  beside_get (suc n) k [] ys x y c hn hx hy = absurd (omega arith)
  beside_get (suc n) k (v ∷ xs) [] x y c hn hx hy = absurd (omega arith)
  beside_get (suc n) zero (v ∷ xs) (w ∷ ys) x y c hn hx hy = refl
  beside_get (suc n) (suc k) (v ∷ xs) (w ∷ ys) x y c hn hx hy = beside_get n k xs ys x y c (omega arith) (omega arith) (omega arith)

  pub beside_few : (n : ℕ) (xs : List A) (ys : List B) → length (beside f n xs ys) ≤ n
  unfolding beside
  beside_few zero xs ys = omega arith
  beside_few (suc n) [] ys = omega arith
  beside_few (suc n) (x ∷ xs) [] = omega arith
  beside_few (suc n) (x ∷ xs) (y ∷ ys) = omega (arith, beside_few n xs ys)

  pub beside_short : (n : ℕ) (xs : List A) (ys : List B) → length (beside f n xs ys) ≤ length xs
  unfolding beside
  beside_short zero xs ys = omega arith
  beside_short (suc n) [] ys = omega arith
  beside_short (suc n) (x ∷ xs) [] = omega arith
  beside_short (suc n) (x ∷ xs) (y ∷ ys) = omega (arith, beside_short n xs ys)

-- of an accepted round each decoder is accepted
pub each_accepted : {X Y : Type 0} (cause : X → Y → Said) (n k : ℕ) (xs : List X) (ys : List Y) (x : X) (y : Y) → k < n → k < length xs → k < length ys
    → accepts (first_cause (beside cause n xs ys)) ≡ true → accepts (cause (get_or xs k x) (get_or ys k y)) ≡ true
unfolding beside
each_accepted cause zero k xs ys x y hn hx hy h = absurd (omega arith)
each_accepted cause (suc n) k [] ys x y hn hx hy h = absurd (omega arith)
each_accepted cause (suc n) k (v ∷ xs) [] x y hn hx hy h = absurd (omega arith)
each_accepted cause (suc n) zero (v ∷ xs) (w ∷ ys) x y hn hx hy h = (both (cause v w) (first_cause (beside cause n xs ys)) h).0
each_accepted cause (suc n) (suc k) (v ∷ xs) (w ∷ ys) x y hn hx hy h =
    each_accepted cause n k xs ys x y (omega arith) (omega arith) (omega arith) (both (cause v w) (first_cause (beside cause n xs ys)) h).1

module _ {A : Type 0} where
  over_front : (u l : List A) (k : ℕ) (d : A) → k < length u → get_or (over u l) k d ≡ get_or u k d
  over_front u l k d h = get_or-append u (drop (length u) l) d k h

  over_back : (u l : List A) (k : ℕ) (d : A) → length u ≤ k → get_or (over u l) k d ≡ get_or l k d
  over_back u l k d h =
      let e : k ≡ length u + (k - length u) = omega arith in
      ap (λ (n : ℕ). get_or (over u l) n d) e
      ∙ get_or-append-add u (drop (length u) l) (k - length u) d
      ∙ get_or-drop (length u) l (k - length u) d
      ∙ ap (λ (n : ℕ). get_or l n d) (sym e)

module _ {A : Type 0} (F : Arithmetic A) (ds : List (Pll A)) (c : Asked A) where
  abbrev said : Said
  said = round_says c.number c.allowance (length c.table) (map F.fit ds) (map waiting_of c.queues)

  abbrev turns : List (Turned A)
  turns = beside (turn_of F c.table (share_of c)) c.number ds c.queues

  -- what a round leaves, by its turns
  abbrev left : List (Turned A) → Rounded A
  left us = record {
    said = said;
    taken = over (map (λ u. u.taken) us) (map (λ q. 0) c.queues);
    sums = over (map (λ u. u.sum) us) (map (λ q. q.sum) c.queues);
    differences = over (map (λ u. u.difference) us) (map (λ q. q.difference) c.queues);
    decoders = over (map (λ u. u.pll) us) ds;
  }

  pub round_said : (asked_of F ds c).said ≡ said
  unfolding round_of
  round_said = refl

  pub by_turns : (b : Bool) → accepts (asked_of F ds c).said ≡ b → asked_of F ds c ≡ left (cond b turns [])
  unfolding round_of
  by_turns b h = ap (λ (t : Bool). left (cond t turns [])) h

  -- a place that has no turn
  bare : (z : Pll A) (us : List (Turned A)) (k : ℕ) → length us ≤ k → leaves_at z (left us) k ≡ untouched_at z ds c.queues k
  bare z us k h = λ j. record {
    taken = side (λ u. u.taken) (λ q. 0) j;
    sum = side (λ u. u.sum) (λ q. q.sum) j;
    difference = side (λ u. u.difference) (λ q. q.difference) j;
    pll = over_back (map (λ u. u.pll) us) ds k z (under (λ u. u.pll)) j;
  }
    where
      under : {X : Type 0} (f : Turned A → X) → length (map f us) ≤ k
      under f = omega (arith, length-map us f)

      side : {X : Type 0} (f : Turned A → X) (old : Queue A → X) → get_or (over (map f us) (map old c.queues)) k (old none) ≡ old (get_or c.queues k none)
      side f old = over_back (map f us) (map old c.queues) k (old none) (under f) ∙ get_or-map old c.queues k none

  pub refused : (z : Pll A) (k : ℕ) → accepts (asked_of F ds c).said ≡ false → leaves_at z (asked_of F ds c) k ≡ untouched_at z ds c.queues k
  refused z k h = ap (λ (r : Rounded A). leaves_at z r k) (by_turns false h) ∙ bare z [] k (omega arith)

  pub past : (z : Pll A) (k : ℕ) → c.number ≤ k → leaves_at z (asked_of F ds c) k ≡ untouched_at z ds c.queues k
  past z k h = by (accepts (asked_of F ds c).said) refl
    where
      by : (b : Bool) → accepts (asked_of F ds c).said ≡ b → leaves_at z (asked_of F ds c) k ≡ untouched_at z ds c.queues k
      by true e =
          ap (λ (r : Rounded A). leaves_at z r k) (by_turns true e)
          ∙ bare z turns k (omega (arith, beside_few (turn_of F c.table (share_of c)) c.number ds c.queues))
      by false e = refused z k e

  -- a place that has one
  module _ (e8 : Eight ds) (q8 : Eight c.queues) (h : accepts (asked_of F ds c).said ≡ true) where
    pub tests : Accepted c.number c.allowance (length c.table) (map F.fit ds) (map waiting_of c.queues)
    tests = accepted_round c.number c.allowance (length c.table) (map F.fit ds) (map waiting_of c.queues) (ap accepts (sym round_said) ∙ h)

    module _ (z : Pll A) (k : ℕ) (hk : k < c.number) where
      -- one side of its turn
      all_turns : length turns ≡ c.number
      all_turns = length_beside (turn_of F c.table (share_of c)) c.number ds c.queues (omega (arith, e8, tests.eight)) (omega (arith, q8, tests.eight))

      side : {X : Type 0} (f : Turned A → X) (old : List X) (x : X)
          → get_or (over (map f turns) old) k x ≡ f (turn_of F c.table (share_of c) (get_or ds k z) (get_or c.queues k none))
      side {X} f old x =
          over_front (map f turns) old k x (omega (arith, hk, length-map turns f, all_turns))
          ∙ ap (λ (l : List X). get_or l k x) (map_beside (turn_of F c.table (share_of c)) f c.number ds c.queues)
          ∙ beside_get (λ d q. f (turn_of F c.table (share_of c) d q)) c.number k ds c.queues z none x hk
          (omega (arith, hk, e8, tests.eight)) (omega (arith, hk, q8, tests.eight))

      pub alone : leaves_at z (asked_of F ds c) k ≡ turn_of F c.table (share_of c) (get_or ds k z) (get_or c.queues k none)
      alone =
          ap (λ (r : Rounded A). leaves_at z r k) (by_turns true h)
          ∙ (λ j. record {
            taken = side (λ u. u.taken) (map (λ q. 0) c.queues) 0 j;
            sum = side (λ u. u.sum) (map (λ q. q.sum) c.queues) [] j;
            difference = side (λ u. u.difference) (map (λ q. q.difference) c.queues) [] j;
            pll = side (λ u. u.pll) ds z j;
          })

      -- its own causes are not in force
      pub own_accepted : accepts (cause_of (length c.table) (F.fit (get_or ds k z)) (waiting_of (get_or c.queues k none))) ≡ true
      own_accepted =
          sym (λ i. accepts (cause_of (length c.table) (get_or-map F.fit ds k z i) (get_or-map waiting_of c.queues k none i)))
          ∙ each_accepted (cause_of (length c.table)) c.number k (map F.fit ds) (map waiting_of c.queues) (F.fit z) (waiting_of {A = A} none) hk
          (omega (arith, hk, e8, tests.eight, length-map ds F.fit)) (omega (arith, hk, q8, tests.eight, length-map c.queues waiting_of)) tests.own
