-- `test_words::words::i16_of` meets its contract. Assumes nothing.
use Prim.Native.Nat.{◌-◌, ◌%◌}
use mathlib.Core.Path.{refl}
use native.Mathlib.Omega.{arith}
use mir.Syntax.{w16}
use Rattle.test_words.proofs.Signed.{signed_is}
use Rattle.test_words.proofs.words.i16_of.Goals as goal

pub returns-then-low-lt32768 : goal.returns-then-low-lt32768
returns-then-low-lt32768 c = signed_is w16 c.args.w (c.args.w % 65536) refl

pub returns-else-low-lt32768 : goal.returns-else-low-lt32768
returns-else-low-lt32768 c = signed_is w16 c.args.w (65535 - (65535 - c.args.w % 65536)) (omega arith)
