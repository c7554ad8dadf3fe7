-- `test_lines::line::starts` meets its contract. Assumes nothing.
use native.Mathlib.Omega.{arith}
use mathlib.Core.Path.{refl}
use Rattle.test_lines.proofs.Reading.{too_short, agrees_next, differs, agrees_end}
use Rattle.test_lines.proofs.line.starts.Goals as goal

pub returns-then-line-name : goal.returns-then-line-name
returns-then-line-name c = let a = c.args in too_short a.line.now a.name.now c.if-line-name.true

pub loop-i-init : goal.loop-i-init
loop-i-init c = refl

pub returns-then-line-i : goal.returns-then-line-i
returns-then-line-i c =
    let o = c.before.before.before.before in
    let a = o.args in
    differs a.line.now a.name.now (omega arith) o.loop-i.i (omega arith) c.if-line-i.true o.loop-i.invariant

pub loop-i-preserved : goal.loop-i-preserved
loop-i-preserved c =
    let o = c.before.before.before.before in
    let a = o.args in
    agrees_next a.line.now a.name.now (omega arith) o.loop-i.i (omega arith) c.if-line-i.false o.loop-i.invariant

pub returns : goal.returns
returns c =
    let a = c.args in
    agrees_end a.line.now a.name.now (omega arith) c.loop-i.i (omega arith) c.loop-i.invariant
