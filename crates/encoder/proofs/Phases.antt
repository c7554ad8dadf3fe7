-- An encoder's loop over its samples, whatever a sample is: the phase before each sample, and the output once
-- all are written. Assumes nothing.
use Rattle.std.proofs.Common.{◌≡◌, ℕ, ◌+◌, ◌*◌, ◌%◌, ◌^◌, ◌<◌, ◌≤◌, List, length, set, ap, ◌∙◌, add-mul, arith}
use lib.Ieee.{Float}
use Rattle.answers.specs.Samples.{samples}
use Rattle.answers.proofs.Samples.{Filled, filled_start, filled_next, filled_end}

-- the phase one sample on
phase_next : (x i inc : ℕ) → ((x + i * inc) % 2 ^ 32 + inc) % 2 ^ 32 ≡ (x + (i + 1) * inc) % 2 ^ 32
phase_next x i inc = rw (add-mul i 1 inc) (go (i * inc))
  where
    go : (a : ℕ) → ((x + a) % 2 ^ 32 + inc) % 2 ^ 32 ≡ (x + (a + 1 * inc)) % 2 ^ 32
    go a = omega arith

-- the phase before sample i, from the first phase x
abbrev on : ℕ → ℕ → ℕ → ℕ
on x inc i = (x + i * inc) % 2 ^ 32

-- i of n samples are written, and p is the phase before the next; sample k at the phase q is g q k
pub record Sent (x inc n : ℕ) (g : ℕ → ℕ → Float) (i p : ℕ) (out : List Float) : Type 0 where
  pub below : i ≤ n
  pub phase : p ≡ on x inc i
  pub filled : Filled n (λ k. g (on x inc k) k) i out

module _ {x inc n : ℕ} {g : ℕ → ℕ → Float} where
  pub sent_start : {out : List Float} → x < 2 ^ 32 → length out ≡ n → Sent x inc n g 0 x out
  sent_start h l = record { below = omega arith; phase = omega arith; filled = filled_start l }

  pub sent_next : {i p q : ℕ} {v : Float} {out : List Float} → Sent x inc n g i p out → i < n → v ≡ g p i → q ≡ (p + inc) % 2 ^ 32 → Sent x inc n g (i + 1) q (set out i v)
  sent_next {i} {p} w h u y = record {
    below = omega arith;
    phase = rw (y, w.phase) (phase_next x i inc);
    filled = filled_next w.filled h (u ∙ ap (λ (z : ℕ). g z i) w.phase);
  }

  pub sent_end : {i p : ℕ} {out : List Float} → Sent x inc n g i p out → n ≤ i → (p ≡ on x inc n) × (out ≡ samples n (λ k. g (on x inc k) k))
  sent_end {i} w h =
      let k : i ≡ n = omega (arith, w.below) in
      (w.phase ∙ ap (on x inc) k, filled_end w.filled w.below h)
