-- Request 6: its claims hold for any arithmetic, and so for both formats. Assumes nothing.
use Prim.Native.Nat.{ℕ, ◌*◌, ◌≤◌, ◌<◌, min}
use native.Mathlib.Nat.{zero-add}
use native.Mathlib.Omega.{arith}
use mathlib.Core.Path.{◌≡◌, refl, sym, ap, ◌∙◌}
use mathlib.Core.Bool.{true}
use mathlib.Core.List.{List}
use lib.ListN.{length, take, get_or}
use lib.Seq.{take_all}
use Rattle.answers.specs.Answer.{accepts, rule, first_cause}
use Rattle.answers.specs.Samples.{samples}
use Rattle.answers.proofs.Causes.{both, none_yet}
use Rattle.decoder_record.specs.State.{Pll}
use Rattle.decoder.specs.Machine.{Arithmetic, Blocked, state_at, step_at, run_of, length_causes, block_of}
use Rattle.decoder.specs.F32.{f32}
use Rattle.decoder.proofs.Loops.{lengths_equal}
use Rattle.decoder_q15.specs.Q15.{q15}
use Rattle.calls.specs.Calls.{Brought}
use Rattle.calls.proofs.Steps.{says_of, block_said, block_ran}
use Rattle.rack_round.specs.Round.{turn_of}
use Rattle.rounds.specs.Rounds.{share_of, decoded_of, after, accepted_in, taken_in, sums_in, differences_in, OneRound, Served, NoStarving, SomeRounds}
use Rattle.rounds.proofs.Places as places
use Rattle.rounds.proofs.InPlace as in_place
use Rattle.rounds.proofs.Runs.{first_run}
use Rattle.rounds.specs.Fit.{FitAlways}
use Rattle.rounds.proofs.Fits.{fit_always}
use Rattle.rounds.proofs.Witness.{some_rounds}
use Rattle.rounds.proofs.Lists.{all_worked, not_yet, going}

module _ {A : Type 0} (F : Arithmetic A) where
  pub one_round : OneRound F
  one_round = record {
    alone = λ z ds a k e q h l. places.alone F ds a e q h z k l;
    apart = λ z ds es a b j k e8 f8 q8 p8 h g l m et es' ed eq.
        places.alone F ds a e8 q8 h z j l
        ∙ (λ i. turn_of F (et i) (es' i) (ed i) (eq i))
        ∙ sym (places.alone F es b f8 p8 g z k m);
    past = λ z ds a k l. places.past F ds a z k l;
    refused = λ z ds a k h. places.refused F ds a z k h;
    in_place = λ number allowance t ds ws flat e. in_place.in_place F number allowance t ds ws flat e;
  }

  -- once all are worked
  module _ (d e : Pll A) (t x p sums differences : List A) (m : ℕ) (all : m ≡ length x)
      (one : record { sum = sums; difference = differences; pll = e } ≡ decoded_of (run_of F d t (take m x) (take m p))) (y z : List A)
      (h : accepts (block_of F d t x p y z).said ≡ true) where
    b : Brought A
    b = record { table = t; mpx = x; pilot = p; first = y; second = z }

    said : accepts (says_of F d b) ≡ true
    unfolding b
    said = ap accepts (sym (block_said F d b)) ∙ h

    even : length p ≡ length x
    unfolding b
    even =
        let c = both (rule 0 (F.fit d)) (first_cause (length_causes (length t) (length x) (length p) (length y) (length z))) said in
        (lengths_equal (length t) (length x) (length p) (length y) (length z) c.1).0

    whole : record { sum = sums; difference = differences; pll = e } ≡ decoded_of (block_of F d t x p y z)
    unfolding b
    whole =
        one
        ∙ (λ i. decoded_of (run_of F d t (take_all m x (omega (arith, all)) i) (take_all m p (omega (arith, all, even)) i)))
        ∙ ap (λ (r : Blocked A). decoded_of r) (sym (block_ran F d b (none_yet (says_of F d b) said)))

  start : (d : Pll A) (t x p : List A) → d ≡ state_at F t x p d 0
  unfolding state_at
  start d t x p = refl

  served : (d e : Pll A) (t x p sums differences : List A) (n s m : ℕ) → 0 < s → m ≡ min (n * s) (length x) → e ≡ state_at F t x p d m
      → sums ≡ samples m (λ i. (step_at F t x p d i).sum) → differences ≡ samples m (λ i. (step_at F t x p d i).difference)
      → Served F d e t x p sums differences n s m
  served d e t x p sums differences n s m hs em ee es ed =
      let one = (λ i. record { sum = es i; difference = ed i; pll = ee i }) ∙ ap (λ (r : Blocked A). decoded_of r) (sym (first_run F t x p d m (omega (arith, em)))) in
      record {
        taken = em;
        enough = λ h. enough (all_worked (length x) s n hs h);
        no_sooner = λ h. omega (arith, em, not_yet (length x) s n hs h);
        as_one = one;
        as_block = λ y z h g. whole d e t x p sums differences m (enough (all_worked (length x) s n hs h)) one y z g;
      }
    where
      enough : length x ≤ n * s → m ≡ length x
      enough h = omega (arith, em)

  pub no_starving : NoStarving F
  no_starving z ds first cs k x p e8 hk hs b =
      let d = get_or ds k z in
      let s = share_of first in
      let n = accepted_in F ds cs in
      let m = taken_in F k ds cs in
      let g = going F z d first k x p hk cs 0 ds (omega arith) e8 (start d first.table x p) b in
      served d (get_or (after F ds cs) k z) first.table x p (sums_in F k ds cs) (differences_in F k ds cs) n s m hs
      (sym (zero-add m) ∙ g.count ∙ ap (λ (q : ℕ). min q (length x)) (zero-add (n * s)))
      (g.state ∙ ap (state_at F first.table x p d) (zero-add m))
      (g.sum ∙ (λ i. samples m (λ l. (step_at F first.table x p d (zero-add l i)).sum)))
      (g.difference ∙ (λ i. samples m (λ l. (step_at F first.table x p d (zero-add l i)).difference)))

-- both formats
pub record Request6 : Type 0 where
  pub f32_round : OneRound f32
  pub q15_round : OneRound q15
  pub f32_lists : NoStarving f32
  pub q15_lists : NoStarving q15
  pub f32_some : SomeRounds f32
  pub q15_fit : FitAlways

pub request6 : Request6
request6 = record {
  f32_round = one_round f32;
  q15_round = one_round q15;
  f32_lists = no_starving f32;
  q15_lists = no_starving q15;
  f32_some = λ ds first k m x p hk h2 h8 ha ht hp. some_rounds first k x p hk h2 h8 ha ht hp m ds;
  q15_fit = fit_always;
}
