use mathlib.Core.Path.{◌≡◌, ◌∙◌}
use lib.IntN.{ℤ, pos}
use lib.Ieee.{Float, of_bits}
use mir.Syntax.{w64}
use Rattle.rounding.proofs.Lin.{back}
use Rattle.decoder_gains.specs.Gains.{Gains, gains}
use Rattle.decoder_record.specs.State.{fresh_of}
use Rattle.decoder_record_q15.specs.Fresh.{scaled_by, fresh_q15}
use Rattle.decoder_record_q15.proofs.pll_q15.fresh.Goals as goal

by-fields : (g : Gains Float) {kp ki imax beta on off : ℤ} → kp ≡ scaled_by 34 g.kp → ki ≡ scaled_by 34 g.ki → imax ≡ scaled_by 64 g.imax → beta ≡ scaled_by 31 g.beta → on ≡ scaled_by 61 g.on → off ≡ scaled_by 61 g.off
    → fresh_of (pos 0) (record { kp = kp; ki = ki; imax = imax; beta = beta; on = on; off = off; step0 = g.step0 }) ≡ fresh_q15 g
by-fields g a b c d e f = rw (a, b, c, d, e, f)

pub returns : goal.returns
unfolding of_bits
returns c =
    let h5 = c in
    let h4 = h5.before in
    let h3 = h4.before in
    let h2 = h3.before in
    let h1 = h2.before in
    by-fields (gains h1.args.g)
    (back w64 h1.floor_scaled.result h1.floor_scaled.type_inv ∙ h1.floor_scaled.ensures)
    (back w64 h2.floor_scaled-2.result h2.floor_scaled-2.type_inv ∙ h2.floor_scaled-2.ensures)
    (back w64 h3.floor_scaled-3.result h3.floor_scaled-3.type_inv ∙ h3.floor_scaled-3.ensures)
    (back w64 h4.floor_scaled-4.result h4.floor_scaled-4.type_inv ∙ h4.floor_scaled-4.ensures)
    (back w64 h5.floor_scaled-5.result h5.floor_scaled-5.type_inv ∙ h5.floor_scaled-5.ensures)
    (back w64 c.floor_scaled-6.result c.floor_scaled-6.type_inv ∙ c.floor_scaled-6.ensures)
