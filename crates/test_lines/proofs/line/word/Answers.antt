-- `test_lines::line::word` meets its contract. Assumes nothing.
use native.Mathlib.Omega.{arith}
use Rattle.test_lines.proofs.Reading.{room, read_start, read_next, no_digit, read_end, no_room}
use Rattle.test_lines.proofs.line.word.Goals as goal

pub returns-then-line-lt16 : goal.returns-then-line-lt16
returns-then-line-lt16 c = let a = c.args in no_room a.line.now a.at (omega arith)

pub returns-then-at-line : goal.returns-then-at-line
returns-then-at-line c = let a = c.args in no_room a.line.now a.at (omega arith)

pub loop-i-init : goal.loop-i-init
loop-i-init c = read_start _ _

pub digit-d-requires : goal.digit-d-requires
digit-d-requires c = tt

pub returns-then-d-gt15 : goal.returns-then-d-gt15
returns-then-d-gt15 c =
    let o = c.before.before.before.before in
    let a = o.args in
    no_digit a.line.now a.at (omega arith) o.loop-i.value o.loop-i.i c.digit-d.result (omega arith) c.digit-d.ensures (omega arith) o.loop-i.invariant

pub overflow_mul-value : goal.overflow_mul-value
overflow_mul-value c = omega (arith, room c.loop-i.invariant (omega arith))

pub overflow_add-value : goal.overflow_add-value
overflow_add-value c = omega (arith, room c.loop-i.invariant (omega arith))

pub loop-i-preserved : goal.loop-i-preserved
loop-i-preserved c =
    let o = c.before.before.before.before in
    let a = o.args in
    read_next a.line.now a.at (omega arith) o.loop-i.value o.loop-i.i c.digit-d.result (omega arith) c.digit-d.ensures (omega arith) o.loop-i.invariant

pub returns : goal.returns
returns c =
    let a = c.args in
    read_end a.line.now a.at (omega arith) c.loop-i.value c.loop-i.i (omega arith) c.loop-i.invariant
