use mir.Syntax.{w16}
use mir.Val.{SFits}
use mir.Facts.{to_z-of_z}
use Rattle.summary_counts.specs.Counts.{held_of}
use Rattle.summary_record.specs.Record.{summary_fit}
use Rattle.summary_record.proofs.Fits.{none_held}
use Rattle.summary_record.proofs.in_q15.is_fit.Goals as goal

pub returns : goal.returns
unfolding summary_fit
returns c =
    let a = c.args.s in
    let f : SFits w16 a.magnitude = record { sfits = c.struct_told-1.given.1.0.1 } in
    rw (to_z-of_z f, c.is_fit.ensures, c.held-empty.ensures, none_held (held_of a.counts))
