use Rattle.std.proofs.Common.{◌≡◌, true}
use lib.Ieee.{of_bits, lt, neg, round}
use Rattle.numbers.specs.Flush.{tiny}
use Rattle.numbers.proofs.Flush.{two_tests}
use Rattle.numbers.proofs.float.flush_denormal.Goals as goal

pub returns-then-x-2 : goal.returns-then-x-2
unfolding of_bits neg round
returns-then-x-2 c =
    let x = c.args.x in
    let above : lt (neg tiny) x ≡ true = c.if-x-2.true in
    rw (← two_tests x, c.if-x.true, above)

pub returns-else-x-2 : goal.returns-else-x-2
unfolding of_bits neg round
returns-else-x-2 c = rw (← two_tests c.args.x, c.if-x.true, c.if-x-2.false)

pub returns-else-x : goal.returns-else-x
unfolding of_bits round
returns-else-x c = rw (← two_tests c.args.x, c.if-x.false)
