-- Over lists of rounds a decoder works its samples at its own pace, over the format. Assumes nothing.
use Prim.Native.Nat.{ℕ, suc, ◌+◌, ◌-◌, ◌*◌, ◌/◌, ◌%◌, ◌≤◌, ◌<◌, min}
use native.Mathlib.Nat.{zero-add, add-zero, add_assoc, zero-mul, suc-mul, mod-lt, div-add-mod', mul-le-mul_right}
use native.Mathlib.Omega.{arith}
use mathlib.Core.Path.{◌≡◌, refl, sym, ap, ◌∙◌}
use mathlib.Core.Bool.{Bool, true, false, cond}
use mathlib.Core.List.{List, [], ◌∷◌, ◌++◌, map}
use lib.ListN.{length, take, drop, get_or, length-map, length-drop}
use Rattle.answers.specs.Answer.{accepts}
use Rattle.answers.specs.Samples.{samples}
use Rattle.decoder_record.specs.State.{Pll}
use Rattle.decoder.specs.Machine.{Arithmetic, Stepped, state_at, step_at}
use Rattle.calls.proofs.Steps.{says_of}
use Rattle.rack_waiting.specs.Beside.{beside}
use Rattle.rack_waiting.proofs.Beside.{over_length}
use Rattle.rack_round.specs.Round.{Queue, Turned, turn_of, Rounded}
use Rattle.rounds.specs.Rounds.{Asked, share_of, Eight, none, leaves_at, untouched_at, asked_of, after, accepted_in, Brings, taken_in, sums_in, differences_in}
use Rattle.rounds.proofs.Places.{beside_short, by_turns, refused, alone, own_accepted}
use Rattle.rounds.proofs.Runs.{samples_split, state_split, step_split, brought_of, turn_taken, turn_pll, turn_sum, turn_difference}

-- ---- numbers
-- n samples before, j more in an accepted round, then m' in a' rounds of q = a' * s samples at most
count_more : (n j m q s w : ℕ) → j ≡ min s (w - n) → n ≤ w → n + j + m ≡ min (n + j + q) w → n + (j + m) ≡ min (n + (q + s)) w
count_more n j m q s w e h g = omega arith

count_same : (n j m q w : ℕ) → j ≡ 0 → n + j + m ≡ min (n + j + q) w → n + (j + m) ≡ min (n + q) w
count_same n j m q w e g = omega arith

module _ (w s a : ℕ) (hs : 0 < s) where
  abbrev quotient : ℕ
  quotient = (w + (s - 1)) / s

  parts : quotient * s + (w + (s - 1)) % s ≡ w + (s - 1)
  parts = div-add-mod' (w + (s - 1)) s

  pub all_worked : quotient ≤ a → w ≤ a * s
  all_worked h = fits (quotient * s) ((w + (s - 1)) % s) (a * s) parts (mod-lt (w + (s - 1)) hs) (mul-le-mul_right s h)
    where
      fits : (p r q : ℕ) → p + r ≡ w + (s - 1) → r < s → p ≤ q → w ≤ q
      fits p r q e l g = omega arith

  pub not_yet : a < quotient → a * s < w
  not_yet h = fits (quotient * s) ((w + (s - 1)) % s) (a * s) parts (suc-mul a s) (mul-le-mul_right s h)
    where
      fits : (p r q : ℕ) {v : ℕ} → p + r ≡ w + (s - 1) → v ≡ q + s → v ≤ p → q < w
      fits p r q e l g = omega arith

-- ---- one round
pub round_eight : {A : Type 0} (F : Arithmetic A) (ds : List (Pll A)) (c : Asked A) → Eight ds → Eight (asked_of F ds c).decoders
round_eight {A} F ds c e8 = by (accepts (asked_of F ds c).said) refl
  where
    long : (us : List (Turned A)) → length us ≤ length ds → length (map (λ u. u.pll) us ++ drop (length (map (λ u. u.pll) us)) ds) ≡ 8
    long us h = over_length (map (λ u. u.pll) us) ds (omega (arith, length-map us (λ u. u.pll))) ∙ e8

    by : (b : Bool) → accepts (asked_of F ds c).said ≡ b → Eight (asked_of F ds c).decoders
    by true e =
        ap (λ (r : Rounded A). length r.decoders) (by_turns F ds c true e)
        ∙ long (beside (turn_of F c.table (share_of c)) c.number ds c.queues) (beside_short (turn_of F c.table (share_of c)) c.number ds c.queues)
    by false e = ap (λ (r : Rounded A). length r.decoders) (by_turns F ds c false e) ∙ e8

module _ {A : Type 0} (F : Arithmetic A) (z d₀ : Pll A) (first : Asked A) (k : ℕ) (mpx pilot : List A) (hk : k < first.number) where
  abbrev t : List A
  t = first.table

  abbrev s : ℕ
  s = share_of first

  -- what a round adds for the decoder, n of whose samples were worked before it
  record Step (n : ℕ) (r : Rounded A) (b : Bool) : Type 0 where
    pub within : n + get_or r.taken k 0 ≤ length mpx
    pub state : get_or r.decoders k z ≡ state_at F t mpx pilot d₀ (n + get_or r.taken k 0)
    pub sum : take (get_or r.taken k 0) (get_or r.sums k []) ≡ samples (get_or r.taken k 0) (λ i. (step_at F t mpx pilot d₀ (n + i)).sum)
    pub difference : take (get_or r.taken k 0) (get_or r.differences k []) ≡ samples (get_or r.taken k 0) (λ i. (step_at F t mpx pilot d₀ (n + i)).difference)
    pub count : (m q : ℕ) → n + get_or r.taken k 0 + m ≡ min (n + get_or r.taken k 0 + q) (length mpx)
        → n + (get_or r.taken k 0 + m) ≡ min (n + cond b (q + s) q) (length mpx)

  -- .. as one decoder's turn
  by_turn : (n : ℕ) (r : Rounded A) (b : Bool) (u : Turned A) → leaves_at z r k ≡ u
      → n + u.taken ≤ length mpx
      → u.pll ≡ state_at F t mpx pilot d₀ (n + u.taken)
      → take u.taken u.sum ≡ samples u.taken (λ i. (step_at F t mpx pilot d₀ (n + i)).sum)
      → take u.taken u.difference ≡ samples u.taken (λ i. (step_at F t mpx pilot d₀ (n + i)).difference)
      → ((m q : ℕ) → n + u.taken + m ≡ min (n + u.taken + q) (length mpx) → n + (u.taken + m) ≡ min (n + cond b (q + s) q) (length mpx))
      → Step n r b
  by_turn n r b u e h1 h2 h3 h4 h5 =
      let et = ap (λ (v : Turned A). v.taken) e in
      record {
        within = rw et h1;
        state = ap (λ (v : Turned A). v.pll) e ∙ h2 ∙ ap (λ (j : ℕ). state_at F t mpx pilot d₀ (n + j)) (sym et);
        sum = (λ i. take (et i) (e i).sum) ∙ h3 ∙ ap (λ (j : ℕ). samples j (λ i. (step_at F t mpx pilot d₀ (n + i)).sum)) (sym et);
        difference = (λ i. take (et i) (e i).difference) ∙ h4 ∙ ap (λ (j : ℕ). samples j (λ i. (step_at F t mpx pilot d₀ (n + i)).difference)) (sym et);
        count = rw et h5;
      }

  module _ (n : ℕ) (ds : List (Pll A)) (c : Asked A) (hn : n ≤ length mpx) (e8 : Eight ds) (hd : get_or ds k z ≡ state_at F t mpx pilot d₀ n) where
    refused_step : accepts (asked_of F ds c).said ≡ false → Step n (asked_of F ds c) false
    unfolding samples
    refused_step h =
        by_turn n (asked_of F ds c) false (untouched_at z ds c.queues k) (refused F ds c z k h) (omega arith)
        (hd ∙ ap (state_at F t mpx pilot d₀) (sym (add-zero n))) refl refl (λ m q g. count_same n 0 m q (length mpx) refl g)

    module _ (en : c.number ≡ first.number) (ea : c.allowance ≡ first.allowance) (et : c.table ≡ t) (q8 : Eight c.queues)
        (ex : (get_or c.queues k none).mpx ≡ drop n mpx) (ep : (get_or c.queues k none).pilot ≡ drop n pilot)
        (h : accepts (asked_of F ds c).said ≡ true) where
      abbrev q : Queue A
      q = get_or c.queues k none

      here : k < c.number
      here = rw en hk

      same_share : share_of c ≡ s
      same_share = λ i. ea i / en i

      -- how many it takes
      j : ℕ
      j = min s (length mpx - n)

      takes : min (share_of c) (length q.mpx) ≡ j
      unfolding j
      takes = (λ i. min (same_share i) (length (ex i))) ∙ ap (min s) (length-drop n mpx)

      own : accepts (says_of F (get_or ds k z) (brought_of F c.table q)) ≡ true
      own = own_accepted F ds c e8 q8 h z k here

      abbrev u : Turned A
      u = turn_of F c.table (share_of c) (get_or ds k z) q

      taken_is : u.taken ≡ j
      taken_is = turn_taken F c.table (share_of c) (get_or ds k z) q own ∙ takes

      state_is : u.pll ≡ state_at F t mpx pilot d₀ (n + j)
      state_is =
          turn_pll F c.table (share_of c) (get_or ds k z) q own
          ∙ (λ i. state_at F (et i) (ex i) (ep i) (hd i) (takes i))
          ∙ state_split F t mpx pilot d₀ n j

      steps : (f : Stepped A → A)
          → samples (min (share_of c) (length q.mpx)) (λ i. f (step_at F c.table q.mpx q.pilot (get_or ds k z) i))
          ≡ samples j (λ i. f (step_at F t mpx pilot d₀ (n + i)))
      steps f =
          (λ i. samples (takes i) (λ l. f (step_at F (et i) (ex i) (ep i) (hd i) l)))
          ∙ (λ i. samples j (λ l. f (step_split F t mpx pilot d₀ n l i)))

      by_min : {v : ℕ} → v ≡ j → (m q : ℕ) → n + v + m ≡ min (n + v + q) (length mpx) → n + (v + m) ≡ min (n + (q + s)) (length mpx)
      unfolding j
      by_min {v} e m q g = count_more n v m q s (length mpx) e hn g

      inside : {v : ℕ} → v ≡ j → n + v ≤ length mpx
      unfolding j
      inside e = omega arith

      accepted_step : Step n (asked_of F ds c) true
      accepted_step =
          by_turn n (asked_of F ds c) true u (alone F ds c e8 q8 h z k here) (inside taken_is)
          (state_is ∙ ap (λ (l : ℕ). state_at F t mpx pilot d₀ (n + l)) (sym taken_is))
          (side (λ v. v.sum) (λ o. o.sum) (turn_sum F c.table (share_of c) (get_or ds k z) q own))
          (side (λ v. v.difference) (λ o. o.difference) (turn_difference F c.table (share_of c) (get_or ds k z) q own))
          (by_min taken_is)
        where
          side : (g : Turned A → List A) (f : Stepped A → A)
              → take (min (share_of c) (length q.mpx)) (g u)
              ≡ samples (min (share_of c) (length q.mpx)) (λ i. f (step_at F c.table q.mpx q.pilot (get_or ds k z) i))
              → take u.taken (g u) ≡ samples u.taken (λ i. f (step_at F t mpx pilot d₀ (n + i)))
          side g f e =
              ap (λ (l : ℕ). take l (g u)) (turn_taken F c.table (share_of c) (get_or ds k z) q own) ∙ e ∙ steps f
              ∙ ap (λ (l : ℕ). samples l (λ i. f (step_at F t mpx pilot d₀ (n + i)))) (sym taken_is)

  -- ---- a list
  pub record Going (n : ℕ) (ds : List (Pll A)) (cs : List (Asked A)) : Type 0 where
    pub count : n + taken_in F k ds cs ≡ min (n + accepted_in F ds cs * s) (length mpx)
    pub state : get_or (after F ds cs) k z ≡ state_at F t mpx pilot d₀ (n + taken_in F k ds cs)
    pub sum : sums_in F k ds cs ≡ samples (taken_in F k ds cs) (λ i. (step_at F t mpx pilot d₀ (n + i)).sum)
    pub difference : differences_in F k ds cs ≡ samples (taken_in F k ds cs) (λ i. (step_at F t mpx pilot d₀ (n + i)).difference)

  -- one signal after the other
  further : (n j m : ℕ) (f : ℕ → A) (a b : List A) → a ≡ samples j (λ i. f (n + i)) → b ≡ samples m (λ i. f (n + j + i)) → a ++ b ≡ samples (j + m) (λ i. f (n + i))
  further n j m f a b ea eb =
      (λ i. ea i ++ eb i)
      ∙ (λ i. samples j (λ l. f (n + l)) ++ samples m (λ l. f (add_assoc n j l i)))
      ∙ sym (samples_split j m (λ i. f (n + i)))

  joined_step : (n : ℕ) (ds : List (Pll A)) (c : Asked A) (cs : List (Asked A)) (b : Bool) → accepts (asked_of F ds c).said ≡ b → Step n (asked_of F ds c) b
      → Going (n + get_or (asked_of F ds c).taken k 0) (asked_of F ds c).decoders cs → Going n ds (c ∷ cs)
  joined_step n ds c cs b e i g =
      let r = asked_of F ds c in
      let v = get_or r.taken k 0 in
      let m = taken_in F k r.decoders cs in
      record {
        count =
            i.count m (accepted_in F r.decoders cs * s) g.count
            ∙ ap (λ (x : ℕ). min (n + x) (length mpx)) (times b (accepted_in F r.decoders cs))
            ∙ ap (λ (y : Bool). min (n + (cond y 1 0 + accepted_in F r.decoders cs) * s) (length mpx)) (sym e);
        state = g.state ∙ ap (state_at F t mpx pilot d₀) (add_assoc n v m);
        sum = further n v m (λ l. (step_at F t mpx pilot d₀ l).sum) _ _ i.sum g.sum;
        difference = further n v m (λ l. (step_at F t mpx pilot d₀ l).difference) _ _ i.difference g.difference;
      }
    where
      times : (b : Bool) (x : ℕ) → cond b (x * s + s) (x * s) ≡ (cond b 1 0 + x) * s
      times true x = sym (suc-mul x s) ∙ ap (λ (y : ℕ). y * s) (one x)
        where
          one : (x : ℕ) → suc x ≡ 1 + x
          one x = omega arith
      times false x = ap (λ (y : ℕ). y * s) (sym (zero-add x))

  pub going : (cs : List (Asked A)) (n : ℕ) (ds : List (Pll A)) → n ≤ length mpx → Eight ds → get_or ds k z ≡ state_at F t mpx pilot d₀ n
      → Brings F first k mpx pilot n ds cs → Going n ds cs
  unfolding samples
  going [] n ds hn e8 hd b = record {
    count = none_taken (zero-mul s);
    state = hd ∙ ap (state_at F t mpx pilot d₀) (sym (add-zero n));
    sum = refl;
    difference = refl;
  }
    where
      none_taken : {q : ℕ} → q ≡ 0 → n + 0 ≡ min (n + q) (length mpx)
      none_taken e = omega (arith, hn)
  going (c ∷ cs) n ds hn e8 hd b =
      by (accepts (asked_of F ds c).said) refl
      (λ hn' hd'. going cs (n + get_or (asked_of F ds c).taken k 0) (asked_of F ds c).decoders hn' (round_eight F ds c e8) hd' b.6)
    where
      -- the rounds after this one
      Later : Type 0
      Later =
          n + get_or (asked_of F ds c).taken k 0 ≤ length mpx
          → get_or (asked_of F ds c).decoders k z ≡ state_at F t mpx pilot d₀ (n + get_or (asked_of F ds c).taken k 0)
          → Going (n + get_or (asked_of F ds c).taken k 0) (asked_of F ds c).decoders cs

      on : (x : Bool) → accepts (asked_of F ds c).said ≡ x → Step n (asked_of F ds c) x → Later → Going n ds (c ∷ cs)
      on x e i later = joined_step n ds c cs x e i (later i.within i.state)

      by : (x : Bool) → accepts (asked_of F ds c).said ≡ x → Later → Going n ds (c ∷ cs)
      by true e = on true e (accepted_step n ds c hn e8 hd b.0 b.1 b.2 b.3 b.4 b.5 e)
      by false e = on false e (refused_step n ds c hn e8 hd e)
