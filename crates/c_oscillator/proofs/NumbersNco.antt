-- A refusal's number is that of one of its causes, all below 100, so that 100 and it fit a u32. Assumes nothing.
use Prim.Native.Nat.{ℕ, ◌<◌}
use mathlib.Core.Path.{◌≡◌}
use mathlib.Core.Bool.{true}
use mathlib.Core.List.{[], ◌∷◌}
use lib.Ieee.{Float, binary64, div}
use lib.Ieee.Scale.{finite}
use Rattle.answers.specs.Answer.{rule, refused, unchanged}
use Rattle.answers.proofs.Causes.{below, rule_below, first_below, refused_below, unchanged_below}
use Rattle.floats.specs.Floats.{positive}
use Rattle.oscillator.specs.Oscillator as osc
use Rattle.oscillator.specs.declared.nco.Nco.{Nco}

module _ (freq rate : Float) where
  oscillator : below 100 (osc.causes freq rate) ≡ true
  oscillator = first_below 100 (rule 1 (positive rate) ∷ rule 17 (finite (div binary64 freq rate)) ∷ []) (simp rule_below)

  pub increment_below : {n : ℕ} → refused n ≡ osc.increment_for freq rate → n < 100
  unfolding osc.increment_for
  increment_below = refused_below 100 (osc.causes freq rate) (osc.increment_of (div binary64 freq rate)) oscillator

  pub nco_below : {n : ℕ} → refused n ≡ osc.new_of freq rate → n < 100
  unfolding osc.new_of
  nco_below = refused_below 100 (osc.causes freq rate) (osc.fresh (osc.increment_of (div binary64 freq rate))) oscillator

  pub frequency_below : (o : Nco) {n : ℕ} {was : Nco} → unchanged n was ≡ osc.set_frequency_of o freq rate → n < 100
  unfolding osc.set_frequency_of
  frequency_below o = unchanged_below 100 (osc.causes freq rate) (osc.increment_set o (osc.increment_of (div binary64 freq rate))) o oscillator
