-- The loop over a rack's decoders, over the format: the first k have had their turn, and their parts end at a.
-- Assumes nothing.
use Prim.Native.Nat.{ℕ, suc, ◌+◌, ◌-◌, ◌≤◌, ◌<◌, min}
use native.Mathlib.Nat.{sub-zero}
use native.Mathlib.Numerals.{add-one}
use native.Mathlib.Omega.{arith}
use mathlib.Core.Path.{◌≡◌, refl, sym, ap, ◌∙◌}
use mathlib.Core.List.{List, [], ◌∷◌, ◌++◌, map, map-append}
use lib.ListN.{length, take, drop, get_or, set, length-map, length-drop}
use lib.Seq.{drop-cons, drop-drop, get_or-drop, length-take-le, take-take}
use Rattle.answers.specs.Answer.{Said}
use Rattle.decoder_record.specs.State.{Pll}
use Rattle.decoder.specs.Machine.{Arithmetic, Blocked, block_of}
use Rattle.rack_waiting.specs.declared.Waiting.{Waiting}
use Rattle.rack_waiting.specs.Beside.{beside, over}
use Rattle.rack_waiting.specs.Waiting.{rest_of}
use Rattle.rack_waiting.specs.Agreed.{Alike, Agreed}
use Rattle.rack_waiting.proofs.Beside.{beside_more, length_beside, over_length, over_set}
use Rattle.rack_waiting.proofs.Agreement.{agreed_next}
use Rattle.rack_round.specs.Round.{Queue, waiting_of, Turned, turn_of}
use Rattle.rack_round.specs.Flat.{front_of, past_of, queues_of, joined, worked_of}
use Rattle.rack_round.proofs.Parts.{over_drop, over_get, over_lent, more_long, joined_more}

pub length_queues : {A : Type 0} (ws : List Waiting) (flat : Queue A) → length (queues_of ws flat) ≡ length ws
unfolding queues_of
length_queues [] flat = refl
length_queues (w ∷ ws) flat = ap suc (length_queues ws _)

queues_cons : {A : Type 0} (w : Waiting) (ws : List Waiting) (flat : Queue A) → queues_of (w ∷ ws) flat ≡ front_of w flat ∷ queues_of ws (past_of w flat)
unfolding queues_of
queues_cons w ws flat = refl

-- what the logic reads past the end of a list of queues
abbrev pub none : {A : Type 0} → Queue A
none = record { mpx = []; pilot = []; sum = []; difference = [] }

-- what lies past a in each list
abbrev pub beyond : {A : Type 0} → ℕ → Queue A → Queue A
beyond a q = record { mpx = drop a q.mpx; pilot = drop a q.pilot; sum = drop a q.sum; difference = drop a q.difference }

-- a place that lies in each list
pub record Inside {A : Type 0} (a : ℕ) (q : Queue A) : Type 0 where
  pub mpx : a ≤ length q.mpx
  pub pilot : a ≤ length q.pilot
  pub sum : a ≤ length q.sum
  pub difference : a ≤ length q.difference

-- what f makes of a record and of the first n samples of a queue, as a block does
abbrev pub of_first : {A B : Type 0} → (Pll A → List A → List A → List A → List A → B) → Pll A → ℕ → Queue A → B
of_first f d n q = f d (take n q.mpx) (take n q.pilot) (take n q.sum) (take n q.difference)

module _ {A : Type 0} (F : Arithmetic A) (share : ℕ) (t : List A) (ds₀ : List (Pll A)) (parts : List Waiting) (flat : Queue A) where
  abbrev turns : ℕ → List (Turned A)
  turns k = beside (turn_of F t share) k ds₀ (queues_of parts flat)

  abbrev sums : ℕ → List A
  sums k = joined (map (λ u. u.sum) (turns k))

  abbrev differences : ℕ → List A
  differences k = joined (map (λ u. u.difference) (turns k))

  abbrev plls : ℕ → List (Pll A)
  plls k = map (λ u. u.pll) (turns k)

  pub record Working (number k a : ℕ) (ys zs : List A) (ds : List (Pll A)) : Type 0 where
    pub upto : k ≤ number
    pub inside : Inside a flat
    pub agreed : Agreed (number - k) (drop k parts) (waiting_of (beyond a flat))
    pub queues : drop k (queues_of parts flat) ≡ queues_of (drop k parts) (beyond a flat)
    pub sum_long : length (sums k) ≡ a
    pub difference_long : length (differences k) ≡ a
    pub sum : ys ≡ over (sums k) flat.sum
    pub difference : zs ≡ over (differences k) flat.difference
    pub decoders : ds ≡ over (plls k) ds₀

module _ {A : Type 0} {F : Arithmetic A} {number share : ℕ} {t : List A} {ds₀ : List (Pll A)} {parts : List Waiting} {flat : Queue A} where
  pub working_start : Agreed number parts (waiting_of flat) → Working F share t ds₀ parts flat number 0 0 flat.sum flat.difference ds₀
  unfolding beside
  working_start h = record {
    upto = omega arith;
    inside = record { mpx = omega arith; pilot = omega arith; sum = omega arith; difference = omega arith };
    agreed = rw (sub-zero number) h;
    queues = refl;
    sum_long = refl;
    difference_long = refl;
    sum = refl;
    difference = refl;
    decoders = refl;
  }

  module _ {k a : ℕ} {ys zs : List A} {ds : List (Pll A)} (i : Working F share t ds₀ parts flat number k a ys zs ds) where
    pub sum_kept : length ys ≡ length flat.sum
    sum_kept = ap length i.sum ∙ over_length (sums F share t ds₀ parts flat k) flat.sum (omega (arith, i.sum_long, i.inside.sum))

    pub difference_kept : length zs ≡ length flat.difference
    difference_kept = ap length i.difference ∙ over_length (differences F share t ds₀ parts flat k) flat.difference (omega (arith, i.difference_long, i.inside.difference))

    pub working_end : number ≤ k → record { sum = ys; difference = zs; decoders = ds } ≡ worked_of F number t share ds₀ parts flat
    unfolding worked_of
    working_end h =
        let e : k ≡ number = omega (arith, i.upto) in
        λ j. record {
          sum = (i.sum ∙ ap (λ (n : ℕ). over (sums F share t ds₀ parts flat n) flat.sum) e) j;
          difference = (i.difference ∙ ap (λ (n : ℕ). over (differences F share t ds₀ parts flat n) flat.difference) e) j;
          decoders = (i.decoders ∙ ap (λ (n : ℕ). over (plls F share t ds₀ parts flat n) ds₀) e) j;
        }

    -- the decoder at k has its turn
    module _ (w₀ : Waiting) (hn : k < number) (hp : k < length parts) where
      abbrev w : Waiting
      w = get_or parts k w₀

      abbrev m : ℕ
      m = w.mpx

      alike : Alike w (waiting_of (beyond a flat))
      alike = (agreed_next number k parts (waiting_of (beyond a flat)) w₀ hn hp i.agreed).0

      under : (x : List A) → a ≤ length x → m ≤ length (drop a x) → a + m ≤ length x
      under x h g = omega (arith, length-drop a x)

      pub room : Inside (a + m) flat
      room = record {
        mpx = under flat.mpx i.inside.mpx alike.in_mpx;
        pilot = under flat.pilot i.inside.pilot alike.in_pilot;
        sum = under flat.sum i.inside.sum alike.in_sum;
        difference = under flat.difference i.inside.difference alike.in_difference;
      }

      -- .. and what it takes of its part
      pub taken_room : (n : ℕ) → n ≡ min share m → Inside (a + n) flat
      taken_room n e = record {
        mpx = omega (arith, room.mpx);
        pilot = omega (arith, room.pilot);
        sum = omega (arith, room.sum);
        difference = omega (arith, room.difference);
      }

      left_after : (x : List A) (n : ℕ) → n ≡ m → length (drop a x) - n ≡ length (drop (a + m) x)
      left_after x n e = omega (arith, length-drop a x, length-drop (a + m) x)

      rest_is : rest_of w (waiting_of (beyond a flat)) ≡ waiting_of (beyond (a + m) flat)
      rest_is = λ j. record {
        mpx = left_after flat.mpx m refl j;
        pilot = left_after flat.pilot w.pilot alike.pilot j;
        sum = left_after flat.sum w.sum alike.sum j;
        difference = left_after flat.difference w.difference alike.difference j;
      }

      past_after : (x : List A) (n : ℕ) → n ≡ m → drop n (drop a x) ≡ drop (a + m) x
      past_after x n e = ap (λ (z : ℕ). drop z (drop a x)) e ∙ drop-drop m a x

      past_is : past_of w (beyond a flat) ≡ beyond (a + m) flat
      past_is = λ j. record {
        mpx = past_after flat.mpx m refl j;
        pilot = past_after flat.pilot w.pilot alike.pilot j;
        sum = past_after flat.sum w.sum alike.sum j;
        difference = past_after flat.difference w.difference alike.difference j;
      }

      queues_here : drop k (queues_of parts flat) ≡ front_of w (beyond a flat) ∷ queues_of (drop (suc k) parts) (past_of w (beyond a flat))
      queues_here = i.queues ∙ ap (λ (l : List Waiting). queues_of l (beyond a flat)) (drop-cons parts k w₀ hp) ∙ queues_cons w (drop (suc k) parts) (beyond a flat)

      queues_next : drop (k + 1) (queues_of parts flat) ≡ queues_of (drop (k + 1) parts) (beyond (a + m) flat)
      queues_next =
          sym (drop-drop 1 k (queues_of parts flat)) ∙ ap (drop 1) queues_here
          ∙ (λ j. queues_of (drop (sym (add-one k) j) parts) (past_is j))

      queue_is : (q : Queue A) → get_or (queues_of parts flat) k q ≡ front_of w (beyond a flat)
      queue_is q =
          let z : k ≡ k + 0 = omega arith in
          ap (λ (n : ℕ). get_or (queues_of parts flat) n q) z
          ∙ sym (get_or-drop k (queues_of parts flat) 0 q)
          ∙ ap (λ (l : List (Queue A)). get_or l 0 q) queues_here

      -- what was lent of the four lists, as they are by now
      abbrev pub lent : Queue A
      lent = record { mpx = drop a flat.mpx; pilot = drop a flat.pilot; sum = drop a ys; difference = drop a zs }

      module _ (d : Pll A) (hd : k < length ds₀) (n : ℕ) (en : n ≡ min share m) where
        n_part : a + n - a ≡ n
        n_part = omega arith

        small : n ≤ m
        small = omega (arith, en)

        done : length (plls F share t ds₀ parts flat k) ≡ k
        done =
            length-map (turns F share t ds₀ parts flat k) (λ u. u.pll)
            ∙ length_beside (turn_of F t share) k ds₀ (queues_of parts flat) (omega arith) (omega (arith, length_queues parts flat))

        same_decoder : get_or ds k d ≡ get_or ds₀ k d
        same_decoder = ap (λ (l : List (Pll A)). get_or l k d) i.decoders ∙ over_get (plls F share t ds₀ parts flat k) ds₀ k d done

        same_sum : drop a ys ≡ drop a flat.sum
        same_sum = ap (drop a) i.sum ∙ over_drop (sums F share t ds₀ parts flat k) flat.sum a i.sum_long

        same_difference : drop a zs ≡ drop a flat.difference
        same_difference = ap (drop a) i.difference ∙ over_drop (differences F share t ds₀ parts flat k) flat.difference a i.difference_long

        -- the samples that it takes, of its queue and of what was lent
        cut : (x : List A) (l : ℕ) → l ≡ m → take n (take l x) ≡ take (a + n - a) x
        cut x l e = ap (λ (z : ℕ). take n (take z x)) e ∙ take-take n m x small ∙ ap (λ (z : ℕ). take z x) (sym n_part)

        took : min share (length (take m (drop a flat.mpx))) ≡ n
        took = ap (min share) (length-take-le m (drop a flat.mpx) alike.in_mpx) ∙ sym en

        abbrev own : Queue A
        own = front_of w (beyond a flat)

        -- what is made of the record and of what was lent is what is made of its own queue
        pub taken_is : {B : Type 0} (f : Pll A → List A → List A → List A → List A → B) (q : Queue A)
            → let o = get_or (queues_of parts flat) k q in of_first f (get_or ds₀ k d) (min share (length o.mpx)) o ≡ of_first f (get_or ds k d) (a + n - a) lent
        taken_is f q =
            ap (λ (o : Queue A). of_first f (get_or ds₀ k d) (min share (length o.mpx)) o) (queue_is q)
            ∙ ap (λ (z : ℕ). of_first f (get_or ds₀ k d) z own) took
            ∙ (λ j. f (sym same_decoder j) (cut (drop a flat.mpx) m refl j) (cut (drop a flat.pilot) w.pilot alike.pilot j)
            ((cut (drop a flat.sum) w.sum alike.sum ∙ ap (take (a + n - a)) (sym same_sum)) j)
            ((cut (drop a flat.difference) w.difference alike.difference ∙ ap (take (a + n - a)) (sym same_difference)) j))

        -- its block left this
        module _ {s : Said} {vy vz : List A} {p : Pll A}
            (b : record { said = s; sum = vy; difference = vz; pll = p } ≡ of_first (λ r. block_of F r t) (get_or ds k d) (a + n - a) lent)
            (ly : length vy ≡ length (take (a + n - a) (drop a ys))) (lz : length vz ≡ length (take (a + n - a) (drop a zs))) where
          abbrev after : Turned A
          after = record {
            taken = n;
            sum = over vy (take m (drop a flat.sum));
            difference = over vz (take m (drop a flat.difference));
            pll = p;
          }

          turn_is : (q : Queue A) → turn_of F t share (get_or ds₀ k d) (get_or (queues_of parts flat) k q) ≡ after
          unfolding turn_of
          turn_is q =
              ap (of (get_or (queues_of parts flat) k q)) (taken_is (λ r. block_of F r t) q ∙ sym b)
              ∙ ap (λ (o : Queue A). of o (record { said = s; sum = vy; difference = vz; pll = p })) (queue_is q)
              ∙ (λ j. record {
                taken = took j;
                sum = over vy (take (alike.sum j) (drop a flat.sum));
                difference = over vz (take (alike.difference j) (drop a flat.difference));
                pll = p;
              })
            where
              of : Queue A → Blocked A → Turned A
              of o e = record { taken = min share (length o.mpx); sum = over e.sum o.sum; difference = over e.difference o.difference; pll = e.pll }

          turns_next : (q : Queue A) → turns F share t ds₀ parts flat (k + 1) ≡ turns F share t ds₀ parts flat k ++ (after ∷ [])
          turns_next q =
              ap (turns F share t ds₀ parts flat) (add-one k)
              ∙ beside_more (turn_of F t share) k ds₀ (queues_of parts flat) d q hd (omega (arith, length_queues parts flat))
              ∙ ap (λ (u : Turned A). turns F share t ds₀ parts flat k ++ (u ∷ [])) (turn_is q)

          signal_next : (f : Turned A → List A) → joined (map f (turns F share t ds₀ parts flat (k + 1))) ≡ joined (map f (turns F share t ds₀ parts flat k)) ++ f after
          signal_next f =
              ap (λ (l : List (Turned A)). joined (map f l)) (turns_next none)
              ∙ ap joined (map-append f (turns F share t ds₀ parts flat k) (after ∷ []))
              ∙ joined_more (map f (turns F share t ds₀ parts flat k)) (f after)

          -- a flat output with the part that came back
          came : (u l out v : List A) → out ≡ over u l → length u ≡ a → length v ≡ length (take (a + n - a) (drop a out)) → a ≤ length l → m ≤ length (drop a l)
              → (take a out ++ (v ++ drop (a + n - a) (drop a out)) ≡ over (u ++ over v (take m (drop a l))) l) × (length (u ++ over v (take m (drop a l))) ≡ a + m)
          came u l out v eo eu ev ha hm =
              let lv : length v ≡ n =
              ev
              ∙ ap length (ap (λ (z : ℕ). take z (drop a out)) n_part ∙ ap (take n) (ap (drop a) eo ∙ over_drop u l a eu))
              ∙ length-take-le n (drop a l) (omega (arith, small)) in (
                (λ j. take a (eo j) ++ (v ++ drop (n_part j) (drop a (eo j)))) ∙ over_lent u v l a n m eu lv small hm,
                more_long u v l a n m eu lv small hm,
              )

          -- the flat output after it
          abbrev put : List A → List A → List A
          put out v = take a out ++ (v ++ drop (a + n - a) (drop a out))

          pub working_next : Working F share t ds₀ parts flat number (k + 1) (a + m) (put ys vy) (put zs vz) (set ds k p)
          working_next =
              let y = came (sums F share t ds₀ parts flat k) flat.sum ys vy i.sum i.sum_long ly i.inside.sum alike.in_sum in
              let z =
              came (differences F share t ds₀ parts flat k) flat.difference zs vz i.difference i.difference_long lz i.inside.difference
              alike.in_difference
              in
              let es = signal_next (λ u. u.sum) in
              let ed = signal_next (λ u. u.difference) in
              record {
                upto = omega arith;
                inside = room;
                agreed = rw (← rest_is) (agreed_next number k parts (waiting_of (beyond a flat)) w₀ hn hp i.agreed).1;
                queues = queues_next;
                sum_long = ap length es ∙ y.1;
                difference_long = ap length ed ∙ z.1;
                sum = y.0 ∙ ap (λ (l : List A). over l flat.sum) (sym es);
                difference = z.0 ∙ ap (λ (l : List A). over l flat.difference) (sym ed);
                decoders =
                    ap (λ (l : List (Pll A)). set l k p) i.decoders
                    ∙ over_set (plls F share t ds₀ parts flat k) ds₀ p k done hd
                    ∙ ap (λ (l : List (Pll A)). over l ds₀) (sym decoders_next);
              }
            where
              decoders_next : plls F share t ds₀ parts flat (k + 1) ≡ plls F share t ds₀ parts flat k ++ (p ∷ [])
              decoders_next =
                  ap (map (λ u. u.pll)) (turns_next none) ∙ map-append (λ u. u.pll) (turns F share t ds₀ parts flat k) (after ∷ [])
