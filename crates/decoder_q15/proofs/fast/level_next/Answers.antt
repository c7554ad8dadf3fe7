use mathlib.Core.Path.{sym, ◌∙◌}
use Prim.Native.Nat.{◌^◌}
use lib.IntN.{pos, ◌+ℤ◌}
use mir.Syntax.{w64}
use mir.Val.{SFits}
use mir.Facts.{to_z-of_z}
use Rattle.rounding.proofs.Lin.{back, shr_fits}
use Rattle.decoder_q15.proofs.Level.{raised_fits, rounded_is}
use Rattle.decoder_q15.proofs.fast.level_next.Goals as goal

pub overflow_add-level : goal.overflow_add-level
overflow_add-level c = rw (to_z-of_z c.ranges.level) (let it : SFits w64 (c.args.level +ℤ pos (2 ^ 30)) = raised_fits c.args.beta c.args.level c.args.q c.requires.level c.requires.product in it)

pub level_after-requires : goal.level_after-requires
level_after-requires c =
    rw (to_z-of_z c.ranges.beta, to_z-of_z c.ranges.level, to_z-of_z c.ranges.q, to_z-of_z (let it : SFits w64 (c.args.level +ℤ pos (2 ^ 30)) = raised_fits c.args.beta c.args.level c.args.q c.requires.level c.requires.product in it))
    (record { level = c.requires.level; product = c.requires.product; rounded = to_z-of_z (shr_fits (2 ^ 31) (let it : SFits w64 (c.args.level +ℤ pos (2 ^ 30)) = raised_fits c.args.beta c.args.level c.args.q c.requires.level c.requires.product in it)) ∙ sym (rounded_is c.args.beta c.args.level c.args.q c.requires.level c.requires.product) })

pub returns : goal.returns
returns c =
    back w64 c.level_after.result c.level_after.type_inv
    ∙ c.level_after.ensures
    ∙ rw (to_z-of_z c.ranges.beta, to_z-of_z c.ranges.level, to_z-of_z c.ranges.q)
