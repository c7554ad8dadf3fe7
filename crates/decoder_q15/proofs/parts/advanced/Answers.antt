use mathlib.Core.Path.{◌≡◌, ◌∙◌}
use lib.IntN.{◌+ℤ◌, ◌*ℤ◌, +ℤ_comm}
use mir.Syntax.{w64}
use mir.Facts.{to_z-of_z}
use Rattle.rounding.proofs.Lin.{back}
use Rattle.decoder.specs.Machine.{limited}
use Rattle.decoder_q15.specs.Q15.{q15}
use Rattle.decoder_record_q15.specs.Records.{pll_of_q15}
use Rattle.decoder_record_q15.proofs.Fit.{limit}
use Rattle.decoder_parts.specs.Rules.{decide_q15}
use Rattle.decoder.proofs.Steps.{advanced_is}
use Rattle.decoder_q15.proofs.Kept.{kp_room, under_largest}
use Rattle.decoder_record_q15.proofs.Held.{Held, held}
use Rattle.decoder_q15.proofs.parts.advanced.Goals as goal

pub within-integ-requires : goal.within-integ-requires
within-integ-requires c = rw (to_z-of_z (let it : Held c.args.d = held c.args.d c.struct_told-1.given in it).imax) (limit ((pll_of_q15 c.args.d)) c.requires.fit)

pub scaled_sum-requires : goal.scaled_sum-requires
scaled_sum-requires c =
    rw (to_z-of_z c.ranges.e, to_z-of_z (let it : Held c.args.d = held c.args.d c.struct_told-1.given in it).kp, back w64 c.within-integ.result c.within-integ.type_inv, (let it : (c.within-integ.result ≡ limited q15 ((pll_of_q15 c.args.d)).gains.imax (((pll_of_q15 c.args.d)).moving.integ +ℤ ((pll_of_q15 c.args.d)).gains.ki *ℤ c.args.e)) = c.within-integ.ensures ∙ rw (to_z-of_z (let it : Held c.args.d = held c.args.d c.struct_told-1.given in it).imax, to_z-of_z c.ranges.gathered, c.requires.gathered, +ℤ_comm (((pll_of_q15 c.args.d)).gains.ki *ℤ c.args.e) ((pll_of_q15 c.args.d)).moving.integ) in it)) (record { error = c.requires.error; fits = kp_room ((pll_of_q15 c.args.d)) c.requires.fit _ })

pub rounded-requires : goal.rounded-requires
rounded-requires c =
    rw (back w64 c.scaled_sum.result c.scaled_sum.type_inv, c.scaled_sum.ensures, to_z-of_z (let it : Held c.args.d = held c.args.d c.struct_told-1.given in it).kp, to_z-of_z c.ranges.e, back w64 c.within-integ.result c.within-integ.type_inv, (let it : (c.within-integ.result ≡ limited q15 ((pll_of_q15 c.args.d)).gains.imax (((pll_of_q15 c.args.d)).moving.integ +ℤ ((pll_of_q15 c.args.d)).gains.ki *ℤ c.args.e)) = c.within-integ.ensures ∙ rw (to_z-of_z (let it : Held c.args.d = held c.args.d c.struct_told-1.given in it).imax, to_z-of_z c.ranges.gathered, c.requires.gathered, +ℤ_comm (((pll_of_q15 c.args.d)).gains.ki *ℤ c.args.e) ((pll_of_q15 c.args.d)).moving.integ) in it), to_z-of_z c.ranges.largest)
    (under_largest ((pll_of_q15 c.args.d)) c.requires.fit c.args.e _ c.args.largest c.requires.error c.requires.largest)

pub returns : goal.returns
returns c =
    let j : c.decided.result ≡ decide_q15 c.args.level ((pll_of_q15 c.args.d)).gains.on ((pll_of_q15 c.args.d)).gains.off ((pll_of_q15 c.args.d)).moving.stereo = c.decided.ensures ∙ rw (to_z-of_z c.ranges.level, to_z-of_z (let it : Held c.args.d = held c.args.d c.struct_told-1.given in it).on, to_z-of_z (let it : Held c.args.d = held c.args.d c.struct_told-1.given in it).off) in
    rw (to_z-of_z c.ranges.level, j)
    (advanced_is q15 ((pll_of_q15 c.args.d)) c.args.e c.args.level (decide_q15 c.args.level ((pll_of_q15 c.args.d)).gains.on ((pll_of_q15 c.args.d)).gains.off ((pll_of_q15 c.args.d)).moving.stereo)
    (back w64 c.within-integ.result c.within-integ.type_inv ∙ (let it : (c.within-integ.result ≡ limited q15 ((pll_of_q15 c.args.d)).gains.imax (((pll_of_q15 c.args.d)).moving.integ +ℤ ((pll_of_q15 c.args.d)).gains.ki *ℤ c.args.e)) = c.within-integ.ensures ∙ rw (to_z-of_z (let it : Held c.args.d = held c.args.d c.struct_told-1.given in it).imax, to_z-of_z c.ranges.gathered, c.requires.gathered, +ℤ_comm (((pll_of_q15 c.args.d)).gains.ki *ℤ c.args.e) ((pll_of_q15 c.args.d)).moving.integ) in it))
    (c.low32-correction.ensures ∙ rw (back w64 c.rounded.result c.rounded.type_inv, c.rounded.ensures, back w64 c.scaled_sum.result c.scaled_sum.type_inv, c.scaled_sum.ensures, to_z-of_z (let it : Held c.args.d = held c.args.d c.struct_told-1.given in it).kp, to_z-of_z c.ranges.e))
    c.phase_after.ensures)
