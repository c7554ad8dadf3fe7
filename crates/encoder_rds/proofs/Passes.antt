-- The pass that adds RDS to what the encoder without RDS left. Assumes nothing.
use Rattle.std.proofs.Common.{◌≡◌, ℕ, List, length, get_or, ◌∙◌}
use lib.Ieee.{Float, nan, binary32, add, mul}
use Rattle.answers.specs.Samples.{samples}
use Rattle.answers.proofs.Passes.{pass_after}
use Rattle.lookup.specs.Lookup.{sine_at, cos_f32}
use Rattle.encoder.specs.Multiplex.{phase_at, multiplex_of}
use Rattle.encoder_rds.specs.MultiplexRds.{multiplex_rds_of}
use Rattle.encoder_record.specs.declared.encode.StereoEncode.{StereoEncode}

-- `cosines` is the table
module _ (e : StereoEncode) (table left right : List Float) {n : ℕ} {cosines : List Float} (t : cosines ≡ table) where
  pub rds_added : (level : Float) (rds : List Float) {mixed out : List Float}
      → length rds ≡ n
      → mixed ≡ samples n (λ i. multiplex_of table e.main e.pilot (phase_at e i) (get_or left i nan) (get_or right i nan))
      → out ≡ samples (length rds) (λ i. add binary32 (get_or mixed i nan) (mul binary32 (mul binary32 level (get_or rds i nan)) (cos_f32 cosines (sine_at 3 (phase_at e i)))))
      → out ≡ samples n (λ i. multiplex_rds_of table e.main e.pilot level (phase_at e i) (get_or left i nan) (get_or right i nan) (get_or rds i nan))
  unfolding multiplex_rds_of
  rds_added level rds l a b =
      let f : ℕ → Float = λ i. multiplex_of table e.main e.pilot (phase_at e i) (get_or left i nan) (get_or right i nan) in
      let g : ℕ → Float → Float = λ i x. add binary32 x (mul binary32 (mul binary32 level (get_or rds i nan)) (cos_f32 table (sine_at 3 (phase_at e i)))) in
      (rw (l, t) at b) ∙ pass_after n f g nan a
