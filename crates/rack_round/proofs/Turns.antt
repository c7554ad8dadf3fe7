-- What the turns of an accepted round leave, over the format: outputs as long as before, counts by the lengths.
-- Assumes nothing.
use Prim.Native.Nat.{ℕ, zero, suc, ◌≤◌, min}
use native.Mathlib.Omega.{arith}
use mathlib.Core.Path.{◌≡◌, refl, sym, ap, ◌∙◌}
use mathlib.Core.List.{List, [], ◌∷◌, ◌++◌, map, append_assoc}
use lib.ListN.{length, take, drop, length-append, length-take, length-drop, take-append-drop}
use lib.Seq.{length-take-le, drop-drop}
use Rattle.answers.specs.Answer.{Said, accepted, turned, lengths, kept}
use Rattle.answers.proofs.Passes.{length_samples}
use Rattle.decoder_record.specs.State.{Pll}
use Rattle.decoder.specs.Machine.{Arithmetic, Blocked, step_at, run_of, block_says, block_of}
use Rattle.rack_waiting.specs.declared.Waiting.{Waiting}
use Rattle.rack_waiting.specs.Beside.{beside, over}
use Rattle.rack_waiting.specs.Waiting.{rest_of, takes_of}
use Rattle.rack_waiting.specs.Agreed.{Agreed}
use Rattle.rack_waiting.proofs.Beside.{drop_cut, over_length}
use Rattle.rack_round.specs.Round.{Queue, waiting_of, turn_of}
use Rattle.rack_round.specs.Flat.{front_of, past_of, queues_of, joined}

-- what is left past a part
module _ {A : Type 0} where
  pub left_waiting : (w : Waiting) (flat : Queue A) → waiting_of (past_of w flat) ≡ rest_of w (waiting_of flat)
  left_waiting w flat = λ j. record {
    mpx = length-drop w.mpx flat.mpx j;
    pilot = length-drop w.pilot flat.pilot j;
    sum = length-drop w.sum flat.sum j;
    difference = length-drop w.difference flat.difference j;
  }

-- ---- one turn
module _ {A : Type 0} (F : Arithmetic A) where
  -- a block leaves outputs as long as they were
  block_long : (t x p y z : List A) (d : Pll A) → length y ≡ length x → length z ≡ length x
      → (length (block_of F d t x p y z).sum ≡ length x) × (length (block_of F d t x p y z).difference ≡ length x)
  unfolding block_of run_of
  block_long t x p y z d ey ez = go (block_says F d (length t) (length x) (length p) (length y) (length z))
    where
      old : Said → Blocked A
      old s = record { said = s; sum = y; difference = z; pll = d }

      go : (s : Said) → (length (kept s (run_of F d t x p) (old s)).sum ≡ length x) × (length (kept s (run_of F d t x p) (old s)).difference ≡ length x)
      go accepted = (length_samples (length x) (λ i. (step_at F t x p d i).sum), length_samples (length x) (λ i. (step_at F t x p d i).difference))
      go (turned n) = (ey, ez)
      go (lengths n a b) = (ey, ez)

  pub turn_long : (t : List A) (share : ℕ) (d : Pll A) (q : Queue A) → length q.sum ≡ length q.mpx → length q.difference ≡ length q.mpx
      → (length (turn_of F t share d q).sum ≡ length q.sum) × (length (turn_of F t share d q).difference ≡ length q.difference)
  unfolding turn_of
  turn_long t share d q es ed =
      (over_length b.sum q.sum (under q.sum es long.0), over_length b.difference q.difference (under q.difference ed long.1))
    where
      n : ℕ
      n = min share (length q.mpx)

      b : Blocked A
      b = block_of F d t (take n q.mpx) (take n q.pilot) (take n q.sum) (take n q.difference)

      front : (l : List A) → length l ≡ length q.mpx → length (take n l) ≡ length (take n q.mpx)
      front l e = omega (arith, length-take n l, length-take n q.mpx)

      long : (length b.sum ≡ length (take n q.mpx)) × (length b.difference ≡ length (take n q.mpx))
      long = block_long t (take n q.mpx) (take n q.pilot) (take n q.sum) (take n q.difference) d (front q.sum es) (front q.difference ed)

      under : (l : List A) {m : ℕ} → length l ≡ length q.mpx → m ≡ length (take n q.mpx) → m ≤ length l
      under l e h = omega (arith, length-take n q.mpx)

-- ---- parts of a list, and lists as long as these in their place
abbrev pub cut_by : {A : Type 0} → List ℕ → List A → List (List A)
cut_by [] l = []
cut_by (n ∷ ns) l = take n l ∷ cut_by ns (drop n l)

-- each is as long as the one beside it, and there are no more of them
abbrev pub AsLong : {A : Type 0} → List (List A) → List (List A) → Type 0
AsLong [] vs = Unit {0}
AsLong (u ∷ us) [] = ⊥
AsLong (u ∷ us) (v ∷ vs) = (length u ≡ length v) × AsLong us vs

module _ {A : Type 0} where
  pub over_append : (a b l : List A) → over (a ++ b) l ≡ a ++ over b (drop (length a) l)
  over_append a b l =
      append_assoc a b (drop (length (a ++ b)) l)
      ∙ ap (λ (z : List A). a ++ (b ++ z)) (ap (λ (n : ℕ). drop n l) (length-append a b) ∙ sym (drop-drop (length b) (length a) l))

  pub past_front : (n : ℕ) (l : List A) → drop (length (take n l)) l ≡ drop n l
  past_front n l = ap (λ (m : ℕ). drop m l) (length-take n l) ∙ sym (drop_cut n l)

  over_cut : (us : List (List A)) (ns : List ℕ) (l : List A) → AsLong us (cut_by ns l) → over (joined (over us (cut_by ns l))) l ≡ over (joined us) l
  over_cut [] [] l h = refl
  over_cut [] (n ∷ ns) l h =
      over_append (take n l) (joined (cut_by ns (drop n l))) l
      ∙ ap (λ (z : List A). take n l ++ over (joined (cut_by ns (drop n l))) z) (past_front n l)
      ∙ ap (λ (z : List A). take n l ++ z) (over_cut [] ns (drop n l) tt)
      ∙ take-append-drop n l
  over_cut (u ∷ us) [] l h = absurd h
  over_cut (u ∷ us) (n ∷ ns) l h =
      let past : drop (length u) l ≡ drop n l = ap (λ (m : ℕ). drop m l) h.0 ∙ past_front n l in
      over_append u (joined (over us (cut_by ns (drop n l)))) l
      ∙ ap (λ (z : List A). u ++ over (joined (over us (cut_by ns (drop n l)))) z) past
      ∙ ap (λ (z : List A). u ++ z) (over_cut us ns (drop n l) h.1)
      ∙ ap (λ (z : List A). u ++ over (joined us) z) (sym past)
      ∙ sym (over_append u (joined us) l)

  pub queues_sums : (ws : List Waiting) (flat : Queue A) → map (λ q. q.sum) (queues_of ws flat) ≡ cut_by (map (λ w. w.sum) ws) flat.sum
  unfolding queues_of
  queues_sums [] flat = refl
  queues_sums (w ∷ ws) flat = ap (λ (l : List (List A)). take w.sum flat.sum ∷ l) (queues_sums ws (past_of w flat))

  pub queues_differences : (ws : List Waiting) (flat : Queue A) → map (λ q. q.difference) (queues_of ws flat) ≡ cut_by (map (λ w. w.difference) ws) flat.difference
  unfolding queues_of
  queues_differences [] flat = refl
  queues_differences (w ∷ ws) flat = ap (λ (l : List (List A)). take w.difference flat.difference ∷ l) (queues_differences ws (past_of w flat))

  -- the queues' outputs past the turns are the flat list's own
  pub sums_over : (us : List (List A)) (ws : List Waiting) (flat : Queue A) → AsLong us (map (λ q. q.sum) (queues_of ws flat))
      → over (joined us) flat.sum ≡ over (joined (over us (map (λ q. q.sum) (queues_of ws flat)))) flat.sum
  sums_over us ws flat h =
      let e = queues_sums ws flat in
      sym (over_cut us (map (λ w. w.sum) ws) flat.sum (rw e at h)) ∙ ap (λ (l : List (List A)). over (joined (over us l)) flat.sum) (sym e)

  pub differences_over : (us : List (List A)) (ws : List Waiting) (flat : Queue A) → AsLong us (map (λ q. q.difference) (queues_of ws flat))
      → over (joined us) flat.difference ≡ over (joined (over us (map (λ q. q.difference) (queues_of ws flat)))) flat.difference
  differences_over us ws flat h =
      let e = queues_differences ws flat in
      sym (over_cut us (map (λ w. w.difference) ws) flat.difference (rw e at h)) ∙ ap (λ (l : List (List A)). over (joined (over us l)) flat.difference) (sym e)

-- ---- all turns
module _ {A : Type 0} (F : Arithmetic A) (t : List A) (share : ℕ) where
  -- the outputs that they leave, in queues whose lengths agree
  pub turns_long : (n : ℕ) (ds : List (Pll A)) (ws : List Waiting) (flat : Queue A) → Agreed n ws (waiting_of flat)
      → let us = beside (turn_of F t share) n ds (queues_of ws flat) in
      AsLong (map (λ u. u.sum) us) (map (λ q. q.sum) (queues_of ws flat)) × AsLong (map (λ u. u.difference) us) (map (λ q. q.difference) (queues_of ws flat))
  unfolding beside queues_of Agreed
  turns_long zero ds ws flat h = (tt, tt)
  turns_long (suc n) [] ws flat h = (tt, tt)
  turns_long (suc n) (d ∷ ds) [] flat h = (tt, tt)
  turns_long (suc n) (d ∷ ds) (w ∷ ws) flat h =
      let a = h.0 in
      let m = length-take-le w.mpx flat.mpx a.in_mpx in
      let l =
      turn_long F t share d (front_of w flat)
      (front flat.sum w.sum w.mpx a.sum a.in_sum m)
      (front flat.difference w.difference w.mpx a.difference a.in_difference m)
      in
      let r = turns_long n ds ws (past_of w flat) (rw (left_waiting w flat) h.1) in (
        (l.0, r.0),
        (l.1, r.1),
      )
    where
      front : (l : List A) (v m : ℕ) {k : ℕ} → v ≡ m → m ≤ length l → k ≡ m → length (take v l) ≡ k
      front l v m e h g = omega (arith, length-take v l)

  -- how many samples they took
  pub turns_taken : (n : ℕ) (ds : List (Pll A)) (qs : List (Queue A)) → length qs ≤ length ds
      → map (λ u. u.taken) (beside (turn_of F t share) n ds qs) ≡ map (takes_of share) (take n (map waiting_of qs))
  unfolding beside turn_of
  turns_taken zero ds qs h = refl
  turns_taken (suc n) [] [] h = refl
  turns_taken (suc n) [] (q ∷ qs) h = absurd (omega arith)
  turns_taken (suc n) (d ∷ ds) [] h = refl
  turns_taken (suc n) (d ∷ ds) (q ∷ qs) h = ap (λ (l : List ℕ). takes_of share (waiting_of q) ∷ l) (turns_taken n ds qs (omega arith))
