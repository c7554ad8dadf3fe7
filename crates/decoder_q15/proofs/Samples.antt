-- One Q15 sample from its parts, and the bounds of its products. Assumes nothing.
use Prim.Native.Nat.{ℕ, ◌^◌, ◌≤◌}
use mathlib.Core.Path.{◌≡◌}
use mathlib.Core.Bool.{◌&&◌, cond}
use mathlib.Core.List.{List}
use lib.IntN.{ℤ, pos, nat_abs, ◌*ℤ◌}
use mir.Syntax.{w16}
use mir.Val.{SFits}
use Rattle.rounding.proofs.Lin.{fits_abs}
use Rattle.numbers.specs.Integers.{sat16_of, round_shift_of}
use Rattle.numbers.proofs.Integers.{product_le}
use Rattle.lookup.specs.Lookup.{sine_at, cos_q15}
use Rattle.lookup.proofs.Between.{cos_q15_fits}
use Rattle.decoder_record.specs.State.{Pll}
use Rattle.decoder_parts.specs.Rules.{decide_q15}
use Rattle.decoder.specs.Machine.{advanced_by, step_of}
use Rattle.decoder_q15.specs.Q15.{q15, level_q15}

-- every pilot sample takes part; the difference goes by the decision and the switch of the next state, and the
-- products are small for any table
module _ (t : List ℤ) where
  pub step_q15_is : (d : Pll ℤ) (x p : ℤ) {e level y z : ℤ} {next : Pll ℤ} → e ≡ p *ℤ cos_q15 t d.moving.phase
      → level ≡ level_q15 d.gains.beta d.moving.level (p *ℤ cos_q15 t (sine_at 1 d.moving.phase))
      → next ≡ advanced_by q15 d e level (decide_q15 level d.gains.on d.gains.off d.moving.stereo)
      → y ≡ sat16_of (round_shift_of (x *ℤ cos_q15 t (sine_at 2 d.moving.phase)) 15) → z ≡ cond (next.moving.stereo && next.enabled) y (pos 0)
      → record { sum = x; difference = z; pll = next } ≡ step_of q15 t d x p
  unfolding step_of advanced_by
  step_q15_is d x p e l n y z = rw (z, y, n, l, e)

  pub lookup_le : (a : ℕ) {s : ℤ} → s ≡ cos_q15 t a → nat_abs s ≤ 2 ^ 15
  lookup_le a e = rw e (fits_abs (cos_q15_fits t a))

  pub product_small : (p : ℤ) (a : ℕ) {q : ℤ} → SFits w16 p → q ≡ p *ℤ cos_q15 t a → nat_abs q ≤ 2 ^ 30
  product_small p a f e = rw e (product_le p (cos_q15 t a) f (cos_q15_fits t a))
