-- Floats by their exact values. Sources: IEEE 754-2019 (5.9 roundToIntegral, 5.4.2 formatOf-convertFormat,
-- 5.4.1 convertFromInt), document 01, "Number helpers". Definitions only.
-- `fin s m e` is the number m * 2^e, negative where s is true: the fraction m * up e / down e. `round f s num
-- den` is the value of the format f nearest to num/den,
-- a tie to the even one, with the sign s; it alone knows the format, subnormal values and the overflow to
-- infinity (lib.Ieee, the kit's account of IEEE 754).
use Rattle.std.specs.Prelude.{ℕ, ◌*◌, Bool, false, ◌&&◌, pos, Float}
use Rattle.std.specs.Float.{nan, inf, fin, Format, binary64}
use Rattle.std.specs.Float.Ieee.{up, down, round, lt, le}
use Rattle.std.specs.Float.Ieee.Scale.{finite}
use Rattle.rounding.specs.Cut.{Rule, downward, halfEven, cut_by}

-- the value of the format nearest to num/den, for a limit that a document gives as a decimal fraction
abbrev pub nearest : Format → ℕ → ℕ → Float
nearest f num den = round f false num den

-- x cut to a whole number by a rule. The sign stays, also of a zero; an infinity and a NaN stay.
unfoldable pub whole_of : Rule → Float → Float
whole_of r nan = nan
whole_of r (inf s) = inf s
whole_of r (fin s m e) = round binary64 s (cut_by r s (m * up e) (down e)) 1

-- the greatest whole number that is not above x
abbrev pub floor_of : Float → Float
floor_of = whole_of downward

-- the whole number nearest to x, a half to the even one
abbrev pub half_even_of : Float → Float
half_even_of = whole_of halfEven

-- x at the format f: the value of f nearest to x, a tie to the even one; a NaN and an infinity stay
unfoldable pub to_format : Format → Float → Float
to_format f nan = nan
to_format f (inf s) = inf s
to_format f (fin s m e) = round f s (m * up e) (down e)

-- the magnitude
abbrev pub abs_of : Float → Float
abs_of nan = nan
abs_of (inf s) = inf false
abs_of (fin s m e) = fin false m e

-- finite and above 0
abbrev pub positive : Float → Bool
positive x = finite x && lt (fin false 0 (pos 0)) x

-- lo ≤ x ≤ hi: a NaN is in no range, and minus zero counts as 0
abbrev pub in_range : Float → Float → Float → Bool
in_range lo hi x = le lo x && le x hi
