-- The Q15 record stays fit over every list of events, and so the integrator within its limit. Assumes nothing.
use mathlib.Core.Path.{◌≡◌}
use mathlib.Core.Bool.{true}
use mathlib.Core.List.{List, [], ◌∷◌}
use lib.IntN.{ℤ, pos}
use Rattle.answers.proofs.Tests.{and_out}
use Rattle.decoder_record.specs.State.{Pll, enabled_of, reset_of}
use Rattle.decoder_record_q15.specs.Fit.{within_z, level_low, level_high, fit_q15}
use Rattle.decoder_record_q15.proofs.Fit.{fit_in, fitted}
use Rattle.decoder_record_q15.proofs.Fresh.{origin_within}
use Rattle.decoder.specs.Machine.{step_of}
use Rattle.decoder_q15.specs.Q15.{q15}
use Rattle.decoder_q15.proofs.Kept.{fit_next}
use Rattle.calls.specs.Events.{Event, sample, switch, clear, after, Pilots16}

reset_fit : (d : Pll ℤ) → fit_q15 d ≡ true → fit_q15 (reset_of (pos 0) d) ≡ true
reset_fit d h =
    let f = fitted d h in
    let b = (and_out (within_z (pos 0) _ d.gains.beta) (within_z level_low level_high d.moving.level) f.level).0 in
    fit_in (reset_of (pos 0) d)
    (record { kp = f.kp; ki = f.ki; imax = f.imax; kp_guard = f.kp_guard; ki_guard = f.ki_guard; integ = origin_within d.gains.imax f.imax; level = rw b })

pub fit_always : (d : Pll ℤ) (es : List (Event ℤ)) → fit_q15 d ≡ true → Pilots16 es → fit_q15 (after q15 d es) ≡ true
unfolding fit_q15
fit_always d [] h s = h
fit_always d (sample t x p ∷ es) h s = fit_always (step_of q15 t d x p).pll es (fit_next t d x p s.0 h) s.1
fit_always d (switch b ∷ es) h s = fit_always (enabled_of b d) es h s
fit_always d (clear ∷ es) h s = fit_always (reset_of (pos 0) d) es (reset_fit d h) s
