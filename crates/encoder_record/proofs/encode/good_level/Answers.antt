use mathlib.Core.Bool.{true, false}
use mathlib.Core.Path.{◌≡◌}
use lib.IntN.{pos}
use lib.Ieee.{fin, of_bits, round, le}
use Rattle.encoder_record.proofs.encode.good_level.Goals as goal

pub returns-then-x : goal.returns-then-x
unfolding of_bits round
returns-then-x c =
    let not_below : le (fin false 0 (pos 0)) c.args.x ≡ true = c.if-x.true in
    rw not_below

pub returns-else-x : goal.returns-else-x
unfolding of_bits round
returns-else-x c = rw c.if-x.false
