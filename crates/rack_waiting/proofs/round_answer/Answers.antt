use mathlib.Core.Path.{◌∙◌}
use native.Mathlib.Omega.{arith}
use Rattle.rack_waiting.proofs.Answers.{too_few, too_many, too_little, decoders_decide}
use Rattle.rack_waiting.proofs.round_answer.Goals as goal

pub returns-then-number-lt2 : goal.returns-then-number-lt2
returns-then-number-lt2 c = let a = c.args in too_few a.number a.allowance a.table a.fits a.waiting c.if-number-lt2.true

pub returns-then-number-gt-PLACES : goal.returns-then-number-gt-PLACES
returns-then-number-gt-PLACES c =
    let a = c.args in
    too_many a.number a.allowance a.table a.fits a.waiting (omega arith) c.if-number-gt-PLACES.true

pub returns-then-allowance-number : goal.returns-then-allowance-number
returns-then-allowance-number c =
    let a = c.args in
    too_little a.number a.allowance a.table a.fits a.waiting (omega arith) (omega arith) c.if-allowance-number.true

pub returns : goal.returns
returns c =
    let a = c.args in
    c.earliest.ensures ∙ decoders_decide a.number a.allowance a.table a.fits a.waiting (omega arith) (omega arith) (omega arith)
