use mathlib.Core.Path.{◌≡◌, sym, ◌∙◌}
use mathlib.Core.Bool.{true}
use mir.Facts.{to_z-of_z}
use Rattle.decoder_record_q15.specs.Fit.{fit_q15}
use Rattle.decoder_record_q15.specs.Records.{pll_of_q15}
use Rattle.decoder_q15.proofs.fast.step_checked.Goals as goal

pub step-requires : goal.step-requires
step-requires c = (let it : fit_q15 (pll_of_q15 c.args.d) ≡ true = sym c.is_fit.ensures ∙ c.if-is_fit.true in it)

pub returns-then-is_fit : goal.returns-then-is_fit
returns-then-is_fit c =
    rw (let it : fit_q15 (pll_of_q15 c.args.d) ≡ true = sym c.is_fit.ensures ∙ c.if-is_fit.true in it) (rw (to_z-of_z c.ranges.x, to_z-of_z c.ranges.p) at c.step.ensures)

pub returns : goal.returns
returns c = rw (← c.is_fit.ensures, c.if-is_fit.false)
