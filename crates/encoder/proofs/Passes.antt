-- The encoder's passes over its output: the subcarrier, sum and difference, the pilot. Assumes nothing.
use Rattle.std.proofs.Common.{◌≡◌, ℕ, List, length, get_or, ap, ◌∙◌}
use lib.Ieee.{Float, nan, binary32, add, mul}
use Rattle.answers.specs.Samples.{samples}
use Rattle.answers.proofs.Passes.{length_samples, pass_after}
use Rattle.lookup.specs.Lookup.{sine_at, cos_f32}
use Rattle.encoder.specs.Multiplex.{phase_at, mixed_of, multiplex_of}
use Rattle.encoder_record.specs.declared.encode.StereoEncode.{StereoEncode}

-- `cosines` is the table
module _ (e : StereoEncode) (table left right : List Float) {n : ℕ} {cosines : List Float} (t : cosines ≡ table) where
  pub multiplexed : {k : ℕ} {carried mixed out : List Float}
      → k ≡ n
      → carried ≡ samples k (λ i. cos_f32 cosines (sine_at 2 (phase_at e i)))
      → mixed ≡ samples n (λ i. mixed_of e.main (get_or left i nan) (get_or right i nan) (get_or carried i nan))
      → out ≡ samples (length mixed) (λ i. add binary32 (get_or mixed i nan) (mul binary32 e.pilot (cos_f32 cosines (sine_at 1 (phase_at e i)))))
      → (length mixed ≡ n) × (out ≡ samples n (λ i. multiplex_of table e.main e.pilot (phase_at e i) (get_or left i nan) (get_or right i nan)))
  unfolding multiplex_of
  multiplexed {k} {carried} {mixed} l a b c =
      let s : ℕ → Float = λ i. cos_f32 cosines (sine_at 2 (phase_at e i)) in
      let f : ℕ → Float → Float = λ i x. mixed_of e.main (get_or left i nan) (get_or right i nan) x in
      let g : ℕ → Float → Float = λ i x. add binary32 x (mul binary32 e.pilot (cos_f32 cosines (sine_at 1 (phase_at e i)))) in
      let m : length mixed ≡ n = ap length b ∙ length_samples n (λ i. f i (get_or carried i nan)) in
      (m, rw (← t) ((rw m at c) ∙ pass_after n (λ i. f i (s i)) g nan (b ∙ pass_after n s f nan (rw l at a))))
