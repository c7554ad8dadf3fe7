-- `test_words::words::i64_of` meets its contract. Assumes nothing.
use Prim.Native.Nat.{◌-◌}
use native.Mathlib.Omega.{arith}
use mir.Syntax.{w64}
use Rattle.test_words.proofs.Signed.{signed_is}
use Rattle.test_words.proofs.words.i64_of.Goals as goal

pub returns-then-w-lt9223372036854775808 : goal.returns-then-w-lt9223372036854775808
returns-then-w-lt9223372036854775808 c = signed_is w64 c.args.w c.args.w (omega arith)

pub returns-else-w-lt9223372036854775808 : goal.returns-else-w-lt9223372036854775808
returns-else-w-lt9223372036854775808 c = signed_is w64 c.args.w (18446744073709551615 - (18446744073709551615 - c.args.w)) (omega arith)
