-- One sample from its parts, over the format: what a step has to show of each. Assumes nothing.
use Prim.Native.Nat.{ℕ}
use mathlib.Core.Path.{◌≡◌, refl}
use mathlib.Core.Bool.{Bool, ◌&&◌, cond}
use mathlib.Core.List.{List}
use Rattle.lookup.specs.Lookup.{sine_at}
use Rattle.decoder_record.specs.State.{Pll, moved_to}
use Rattle.decoder_parts.specs.Rules.{phase_after}
use Rattle.decoder.specs.Machine.{Arithmetic, decide, limited, advanced_by, step_of}

module _ {A : Type 0} (F : Arithmetic A) where
  -- the last two steps
  pub advanced_is : (d : Pll A) (e level : A) (stereo : Bool) {phase correction : ℕ} {integ : A} → integ ≡ limited F d.gains.imax (F.accumulate d.moving.integ d.gains.ki e)
      → correction ≡ F.correction (F.frequency d.gains.kp e integ) → phase ≡ phase_after d.moving.phase d.gains.step0 correction
      → moved_to d (record { phase = phase; integ = integ; level = level; stereo = stereo }) ≡ advanced_by F d e level stereo
  unfolding advanced_by
  advanced_is d e level stereo i c p = rw (p, c, i)

  -- the numbers that a step works out for the samples x and p in the state d
  pub record Parts (t : List A) (d : Pll A) (x p e level difference : A) (stereo : Bool) (next : Pll A) : Type 0 where
    pub error : e ≡ cond (F.usable p) (F.times p (F.lookup t d.moving.phase)) F.nought
    pub lock : level ≡ cond (F.usable p) (F.level_next d.gains.beta d.moving.level (F.times p (F.lookup t (sine_at 1 d.moving.phase)))) d.moving.level
    pub decision : stereo ≡ cond (F.usable p) (decide F level d.gains.on d.gains.off d.moving.stereo) d.moving.stereo
    pub heard : difference ≡ cond (stereo && d.enabled) (F.demodulate x (F.lookup t (sine_at 2 d.moving.phase))) F.nought
    pub advanced : next ≡ advanced_by F d e level stereo

  pub step_is : (t : List A) (d : Pll A) (x p : A) {e level difference : A} {stereo : Bool} {next : Pll A} → Parts t d x p e level difference stereo next
      → record { sum = x; difference = difference; pll = next } ≡ step_of F t d x p
  unfolding step_of
  step_is t d x p k = rw (k.advanced, k.heard, k.decision, k.lock, k.error)

  -- the sum is mpx itself
  pub sum_is : (t : List A) (d : Pll A) (x p : A) → (step_of F t d x p).sum ≡ x
  unfolding step_of
  sum_is t d x p = refl
