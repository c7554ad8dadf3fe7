-- The f32 integrator stays within its limit over every list of events whose samples have tables within -1..1.
-- Assumes nothing.
use Prim.Native.Nat.{ℕ, zero, suc, ◌+◌, ◌*◌, ◌/◌, ◌%◌, ◌<◌}
use mathlib.Core.Path.{◌≡◌, refl, sym, ap, ◌∙◌, subst}
use mathlib.Core.Bool.{Bool, true, false, not, cond, true≢false}
use mathlib.Core.List.{List, [], ◌∷◌}
use native.Mathlib.Omega.{arith}
use native.Mathlib.Nat.{le_trans, le_of_eq, mul-one, zero-mul, not-suc-le-zero, le_of_suc-le-suc}
use borrow.Author.Tests.{ltb-true, not-true}
use lib.Dec.{T, ltb, eqb, eqb→eq, lit<, lit≤}
use lib.Arith.{le→nltb}
use lib.ListN.{length, get_or}
use lib.IntN.{pos}
use lib.Ieee.{Float, nan, inf, fin, binary32, up, down, add, mul, sub, neg, lt, le, eq, is_nan}
use lib.Ieee.Scale.{finite}
use Rattle.rounding.proofs.Bound.{Within, Upto, within_finite, within_between, round_within, lookup_within}
use Rattle.rounding.proofs.Finite.{eq_zero}
use Rattle.rounding.proofs.Order.{le_of_not_lt, le_self, neg_real, add_real, mul_real, mul_real', nonzero, between_finite}
use Rattle.floats.specs.Floats.{abs_of, to_format, in_range}
use Rattle.numbers.specs.Flush.{flush_of, tiny}
use Rattle.lookup.specs.Lookup.{cos_f32, frac_f32}
use Rattle.answers.specs.Answer.{made}
use Rattle.answers.proofs.Tests.{and_out}
use Rattle.decoder_gains.specs.Gains.{Gains, nought, narrows, all_narrow, gains_of}
use Rattle.decoder_gains.proofs.Plus.{plus, round_plus}
use Rattle.decoder_gains.proofs.Sound.{Sound, sound, all_narrow_lem}
use Rattle.decoder_record.specs.State.{Pll, enabled_of, reset_of}
use Rattle.decoder.specs.Machine.{limited, advanced_by, step_of}
use Rattle.decoder_parts.specs.Rules.{accumulate_f32}
use Rattle.decoder.specs.F32.{f32}
use Rattle.decoder_record.specs.Fresh.{fresh_f32, new_f32_of}
use Rattle.decoder_record.proofs.Fresh.{made_f32}
use Rattle.calls.specs.Events.{Event, sample, switch, clear, after, unit_table, UnitTables}

-- ---- a lookup in a table within -1..1 is at most 3 / 2 in size
pub holds : {b : Bool} → b ≡ true → T b
holds h = subst T (sym h) tt

pub unit_within : (x : Float) → in_range (fin true 1 (pos 0)) (fin false 1 (pos 0)) x ≡ true → Upto 2 x
unit_within x h =
    let w = and_out (le (fin true 1 (pos 0)) x) (le x (fin false 1 (pos 0))) h in
    within_between (λ q. 2) (fin true 1 (pos 0)) x (fin false 1 (pos 0)) (lit≤ tt) (lit≤ tt) (holds w.0) (holds w.1)

entry_within : (t : List Float) (i : ℕ) → unit_table t ≡ true → i < length t → Upto 2 (get_or t i nan)
entry_within [] i h l = absurd (not-suc-le-zero l)
entry_within (x ∷ t) zero h l = unit_within x (and_out (in_range (fin true 1 (pos 0)) (fin false 1 (pos 0)) x) (unit_table t) h).0
entry_within (x ∷ t) (suc i) h l = entry_within t i (and_out (in_range (fin true 1 (pos 0)) (fin false 1 (pos 0)) x) (unit_table t) h).1 (le_of_suc-le-suc l)

frac_within : (p : ℕ) → Within (λ q. cond q 0 2) (frac_f32 p)
frac_within p = round_within binary32 (λ q. cond q 0 2) false (p % 1048576) 1048576 (lit< tt) (omega arith) (lit< tt)

pub cos_within : (t : List Float) (p : ℕ) → unit_table t ≡ true → Upto 3 (cos_f32 t p)
unfolding cos_f32
cos_within t p h = go (ltb (p / 1048576 + 1) (length t)) refl
  where
    a : Float
    a = get_or t (p / 1048576) nan

    b : Float
    b = get_or t (p / 1048576 + 1) nan

    go : (u : Bool) → ltb (p / 1048576 + 1) (length t) ≡ u → Upto 3 (cond u (add binary32 a (mul binary32 (sub binary32 b a) (frac_f32 p))) (fin false 0 (pos 0)))
    go true e =
        let l = ltb-true (p / 1048576 + 1) (length t) e in
        lookup_within binary32 a b (frac_f32 p) (entry_within t (p / 1048576) h (omega arith)) (entry_within t (p / 1048576 + 1) h l) (frac_within p)
    go false e = lit≤ tt

-- ---- the limited integrator
flush_real : (x : Float) → T (not (is_nan x)) → T (not (is_nan (flush_of x)))
unfolding flush_of is_nan
flush_real x p = go (lt (abs_of x) tiny)
  where
    go : (b : Bool) → T (not (is_nan (cond b (fin false 0 (pos 0)) x)))
    go true = tt
    go false = p

-- what is limited is within the limit, where it is no NaN
limited_in : (m x : Float) → T (not (is_nan m)) → T (not (is_nan x)) → T (le (neg m) m) → T (le (neg m) (limited f32 m x)) × T (le (limited f32 m x) m)
limited_in m x p q w = first (lt m x) (λ h. le_of_not_lt m x p q h)
  where
    second : (y : Float) → T (not (is_nan y)) → T (le y m) → T (le (neg m) (cond (lt y (neg m)) (neg m) y)) × T (le (cond (lt y (neg m)) (neg m) y) m)
    second y r h = go (lt y (neg m)) (λ k. le_of_not_lt y (neg m) r (neg_real m p) k)
      where
        go : (b : Bool) → (T (not b) → T (le (neg m) y)) → T (le (neg m) (cond b (neg m) y)) × T (le (cond b (neg m) y) m)
        go true k = (le_self (neg m) (neg_real m p), w)
        go false k = (k tt, h)

    first : (b : Bool) → (T (not b) → T (le x m)) → T (le (neg m) (cond (lt (cond b m x) (neg m)) (neg m) (cond b m x))) × T (le (cond (lt (cond b m x) (neg m)) (neg m) (cond b m x)) m)
    first true k = second m p (le_self m p)
    first false k = second x q (k tt)

-- a limit that is not below 0: its negative is not above it, and plus 0 lies between the two
minus_le : (m : Float) → T (finite m) → T (plus m) → T (le (neg m) m)
unfolding lt neg is_nan
minus_le nan f h = absurd f
minus_le (inf s) f h = absurd f
minus_le (fin true k e) f h = absurd h
minus_le (fin false k e) f h = le_of_not_lt (fin false k e) (fin true k e) tt tt tt

origin : (m : Float) → T (finite m) → T (plus m) → T (le (neg m) (fin false 0 (pos 0))) × T (le (fin false 0 (pos 0)) m)
unfolding lt neg is_nan
origin nan f h = absurd f
origin (inf s) f h = absurd f
origin (fin true k e) f h = absurd h
origin (fin false k e) f h = (
  le_of_not_lt (fin false 0 (pos 0)) (fin true k e) tt tt tt,
  le_of_not_lt (fin false k e) (fin false 0 (pos 0)) tt tt (le→nltb (k * up e * 1) (0 * down e) (le_trans (le_of_eq (zero-mul (down e))) (omega arith))),
)

-- what construction gives of the gains, which no event changes
pub record Proper (g : Gains Float) : Type 0 where
  pub kp_finite : T (finite g.kp)
  pub kp_plus : T (plus g.kp)
  pub ki_finite : T (finite g.ki)
  pub ki_some : T (nonzero g.ki)
  pub imax_finite : T (finite g.imax)
  pub imax_plus : T (plus g.imax)

-- and what every event keeps of the integrator
pub record Bounded (g : Gains Float) (integ : Float) : Type 0 where
  pub proper : Proper g
  pub low : T (le (neg g.imax) integ)
  pub high : T (le integ g.imax)

abbrev pub InBounds : Pll Float → Type 0
InBounds d = Bounded d.gains d.moving.integ

pub start_bounded : (g : Gains Float) → Proper g → Bounded g nought
start_bounded g p = let o = origin g.imax p.imax_finite p.imax_plus in record { proper = p; low = o.0; high = o.1 }

pub real : (x : Float) → T (finite x) → T (not (is_nan x))
unfolding is_nan
real nan h = h
real (inf s) h = tt
real (fin s m e) h = tt

neg_finite : (x : Float) → T (finite x) → T (finite (neg x))
unfolding neg
neg_finite nan h = h
neg_finite (inf s) h = h
neg_finite (fin s m e) h = tt

error_real : (t : List Float) (phase : ℕ) (p : Float) → unit_table t ≡ true → T (not (is_nan (cond (finite p) (mul binary32 p (cos_f32 t phase)) (fin false 0 (pos 0)))))
unfolding is_nan
error_real t phase p h = go (finite p) refl
  where
    go : (u : Bool) → finite p ≡ u → T (not (is_nan (cond u (mul binary32 p (cos_f32 t phase)) (fin false 0 (pos 0)))))
    go true e = mul_real binary32 p (cos_f32 t phase) (holds e) (within_finite (λ q. 3) (cos_f32 t phase) (cos_within t phase h))
    go false e = tt

pub integ_bounded : (g : Gains Float) (integ e : Float) → T (not (is_nan e)) → Bounded g integ → Bounded g (limited f32 g.imax (accumulate_f32 integ g.ki e))
unfolding accumulate_f32
integ_bounded g integ e k b =
    let p = b.proper in
    let i = between_finite (neg g.imax) integ g.imax (neg_finite g.imax p.imax_finite) p.imax_finite b.low b.high in
    let s = add binary32 integ (mul binary32 g.ki e) in
    let r = flush_real s (add_real binary32 integ (mul binary32 g.ki e) i (mul_real' binary32 g.ki e p.ki_finite p.ki_some k)) in
    let w = limited_in g.imax (flush_of s) (real g.imax p.imax_finite) r (minus_le g.imax p.imax_finite p.imax_plus) in
    record { proper = p; low = w.0; high = w.1 }

pub next_bounded : (t : List Float) (d : Pll Float) (x p : Float) → unit_table t ≡ true → InBounds d → InBounds (step_of f32 t d x p).pll
unfolding step_of advanced_by
next_bounded t d x p h b = integ_bounded d.gains d.moving.integ _ (error_real t d.moving.phase p h) b

pub bounded_always : (d : Pll Float) (es : List (Event Float)) → InBounds d → UnitTables es → InBounds (after f32 d es)
bounded_always d [] b u = b
bounded_always d (sample t x p ∷ es) b u = bounded_always (step_of f32 t d x p).pll es (next_bounded t d x p u.0 b) u.1
bounded_always d (switch s ∷ es) b u = bounded_always (enabled_of s d) es b u
bounded_always d (clear ∷ es) b u = bounded_always (reset_of nought d) es (start_bounded d.gains b.proper) u

-- ---- construction
nonzero_of : (x : Float) → T (finite x) → eq x nought ≡ false → T (nonzero x)
nonzero_of nan f h = absurd f
nonzero_of (inf s) f h = absurd f
nonzero_of (fin s m e) f h = go (eqb m 0) (eqb→eq m 0)
  where
    go : (b : Bool) → (T b → m ≡ 0) → T (not b)
    go true z = absurd (true≢false (sym (eq_zero (fin s m e) s 1 (lit< tt) (refl, ap (λ (k : ℕ). k * up e * 1) (z tt) ∙ mul-one (0 * up e) ∙ zero-mul (up e) ∙ sym (zero-mul (down e)))) ∙ h))
    go false z = tt

plus_at : (x : Float) → T (plus x) → T (plus (to_format binary32 x))
unfolding to_format
plus_at nan h = tt
plus_at (inf s) h = h
plus_at (fin true m e) h = absurd h
plus_at (fin false m e) h = round_plus binary32 (m * up e) (down e)

-- an f32 gain that passed cause 6
narrowed : (x : Float) → narrows x ≡ true → T (finite (to_format binary32 x)) × T (nonzero (to_format binary32 x))
narrowed x h =
    let w = and_out (finite (to_format binary32 x)) (not (eq (to_format binary32 x) nought)) h in
    (holds w.0, nonzero_of (to_format binary32 x) (holds w.0) (not-true _ w.1))

fresh_bounded : (g : Gains Float) → Sound g → all_narrow g ≡ true → InBounds (fresh_f32 g)
fresh_bounded g s n =
    let a = and_out (narrows g.kp) _ n in
    let b = and_out (narrows g.ki) _ a.1 in
    let c = and_out (narrows g.imax) _ b.1 in
    let k = narrowed g.ki b.0 in
    start_bounded (fresh_f32 g).gains
    (record {
      kp_finite = (narrowed g.kp a.0).0;
      kp_plus = plus_at g.kp s.kp;
      ki_finite = k.0;
      ki_some = k.1;
      imax_finite = (narrowed g.imax c.0).0;
      imax_plus = plus_at g.imax s.imax;
    })

pub bounded_new : (pilot natural level beta rate : Float) (d : Pll Float) → new_f32_of pilot natural level beta rate ≡ made d → InBounds d
bounded_new pilot natural level beta rate d h =
    let m = made_f32 pilot natural level beta rate d h in
    subst InBounds m.1 (fresh_bounded (gains_of pilot natural level beta rate) (sound pilot natural level beta rate m.0) (all_narrow_lem pilot natural level beta rate m.0))
