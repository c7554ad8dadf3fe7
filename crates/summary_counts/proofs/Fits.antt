-- Counts that are fit: what that says of them, and what one sample more does to them. Assumes nothing.
use Rattle.std.proofs.Common.{◌≡◌, ℕ, ◌+◌, ◌%◌, ◌^◌, ◌<◌, ◌≤◌, Bool, true, false, cond, not, eqb, ltb, mod-eq_of_lt, arith, ltb-true, lt-ltb, ne_eqb, le-leb, leb-true}
use Rattle.answers.proofs.Tests.{and_out}
use Rattle.summary_counts.specs.declared.Counts.{Counts}
use Rattle.summary_counts.specs.Counts.{held_of, unlike, counted_of, wrapped, counts_fit}

pub record Counted (c : Counts) : Type 0 where
  pub below : held_of c < c.period
  pub few : c.changes ≤ held_of c

pub counts_out : (c : Counts) → counts_fit c ≡ true → Counted c
unfolding counts_fit
counts_out c h =
    let a = and_out (not (eqb c.period 0)) _ h in
    let b = and_out (ltb (held_of c) c.period) _ a.1 in
    record { below = ltb-true (held_of c) c.period b.0; few = leb-true c.changes (held_of c) b.1 }

pub counts_in : (c : Counts) → Counted c → counts_fit c ≡ true
unfolding counts_fit
counts_in c w = rw (ne_eqb c.period 0 (λ e. some (held_of c) c.period e w.below), lt-ltb (held_of c) c.period w.below, le-leb c.changes (held_of c) w.few)
  where
    some : (h p : ℕ) → p ≡ 0 → h < p → ⊥
    some h p e l = omega arith

-- one sample more is one more held, and at most one change more
pub one_more : (c : Counts) (stereo : Bool) → held_of (counted_of c stereo) ≡ held_of c + 1
one_more c true = omega arith
one_more c false = omega arith

pub change_more : (c : Counts) (stereo : Bool) → (counted_of c stereo).changes ≤ c.changes + 1
change_more c stereo = go (unlike c.before stereo)
  where
    go : (b : Bool) → c.changes + cond b 1 0 ≤ c.changes + 1
    go true = omega arith
    go false = omega arith

-- fit counts do not wrap
pub unwrapped : (c : Counts) (stereo : Bool) → Counted c → c.period < 2 ^ 32 → wrapped (counted_of c stereo) ≡ counted_of c stereo
unwrapped c stereo w p =
    let n = counted_of c stereo in
    let m = one_more c stereo in
    rw (small n.stereo (omega (arith, m, w.below)), small n.mono (omega (arith, m, w.below)), small n.changes (omega (arith, w.below, w.few, change_more c stereo)))
  where
    small : (a : ℕ) → a < 2 ^ 32 → a % 2 ^ 32 ≡ a
    small a h = mod-eq_of_lt h
