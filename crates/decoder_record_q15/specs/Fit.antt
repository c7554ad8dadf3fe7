-- Which Q15 records a block takes (cause 0), and the guard that construction asks too (cause 7). Source:
-- document 01, "The plain machine" (unfit exactly when) and "Calls turned back". Definitions only.
use Rattle.std.specs.Prelude.{◌+◌, ◌-◌, ◌^◌, Bool, ◌&&◌, ℤ, pos, negsuc, neg_ℤ, ◌+ℤ◌, ◌*ℤ◌}
use Rattle.std.specs.Int.Signed.{le_z}
use Rattle.decoder_record.specs.State.{Pll}

-- lo ≤ z ≤ hi
abbrev pub within_z : ℤ → ℤ → ℤ → Bool
within_z lo hi z = le_z lo z && le_z z hi

-- z fits i64 (`negsuc n` is -1 - n)
abbrev pub fits64 : ℤ → Bool
fits64 z = within_z (negsuc (2 ^ 63 - 1)) (pos (2 ^ 63 - 1)) z

-- the guard: gain times 2^30 plus imax
abbrev pub guard_of : ℤ → ℤ → ℤ
guard_of gain imax = gain *ℤ pos (2 ^ 30) +ℤ imax

-- the level's bounds: -2^61 - 2^30 and 2^61 + 2^30 - 1
abbrev pub level_low : ℤ
level_low = negsuc (2 ^ 61 + 2 ^ 30 - 1)

abbrev pub level_high : ℤ
level_high = pos (2 ^ 61 + 2 ^ 30 - 1)

-- beta and the level within their bounds
abbrev pub level_fit : ℤ → ℤ → Bool
level_fit beta level = within_z (pos 0) (pos (2 ^ 31)) beta && within_z level_low level_high level

unfoldable pub fit_q15 : Pll ℤ → Bool
fit_q15 d =
    let g = d.gains in
    le_z (pos 0) g.kp
    && (le_z (pos 0) g.ki
    && (le_z (pos 0) g.imax
    && (fits64 (guard_of g.kp g.imax)
    && (fits64 (guard_of g.ki g.imax)
    && (within_z (neg_ℤ g.imax) g.imax d.moving.integ
    && level_fit g.beta d.moving.level)))))
