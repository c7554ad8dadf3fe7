-- Q15: a record that is fit stays fit over every list of rounds. Assumes nothing.
use native.Mathlib.Omega.{arith}
use mathlib.Core.List.{List}
use lib.IntN.{ℤ, pos}
use mir.Syntax.{w16}
use mir.Val.{SFits}
use Rattle.decoder_record.specs.State.{Pll}
use Rattle.decoder_record_q15.proofs.Fresh.{fit_new}
use Rattle.decoder_q15.specs.Q15.{q15}
use Rattle.decoder_q15.proofs.Kept.{fit_next}
use Rattle.rounds.specs.Rounds.{Asked, after}
use Rattle.rounds.specs.Fit.{All, Fresh, Fit, Pilots16, FitAlways}
use Rattle.rounds.proofs.Kept.{all_by, kept_always}

nought_fits : SFits w16 (pos 0)
nought_fits = record { sfits = omega arith }

-- nothing is asked of a table
abbrev Any : List ℤ → Type 0
Any t = Unit {0}

always : (ds : List (Pll ℤ)) (cs : List (Asked ℤ)) → All Fit ds → All Pilots16 cs → All Fit (after q15 ds cs)
always ds cs h a =
    kept_always q15 Fit Any (SFits w16) nought_fits (λ t d x p any. fit_next t d x p) ds cs h
    (all_by Pilots16 (λ c. Unit {0} × Pilots16 c) (λ c s. (tt, s)) cs a)

fresh_fit : (d : Pll ℤ) → Fresh d → Fit d
fresh_fit d f = fit_new f.0 f.1 f.2 f.3 f.4 d f.5

pub fit_always : FitAlways
fit_always = record { fit = always; fresh = λ ds cs h. always ds cs (all_by Fresh Fit fresh_fit ds h) }
