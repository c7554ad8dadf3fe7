-- What each test found is written out, so that a test of something else is refused there.
use Rattle.std.proofs.Common.{◌≡◌, true, false}
use lib.Ieee.{lt}
use Rattle.decoder_parts.specs.Rules.{reaches_f32}
use Rattle.decoder_parts.proofs.in_f32.decided.Goals as goal

pub returns-then-level-on : goal.returns-then-level-on
returns-then-level-on c =
    let a = c.args in
    let reached : reaches_f32 a.level a.on ≡ true = c.if-level-on.true in
    rw reached

pub returns-then-level-off : goal.returns-then-level-off
returns-then-level-off c =
    let a = c.args in
    let not-reached : reaches_f32 a.level a.on ≡ false = c.if-level-on.false in
    let under : lt a.level a.off ≡ true = c.if-level-off.true in
    rw (not-reached, under)

pub returns-else-level-off : goal.returns-else-level-off
returns-else-level-off c = rw (c.if-level-on.false, c.if-level-off.false)
