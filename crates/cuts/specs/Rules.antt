-- The code's own name for a rule of a cut. Definitions only.
use Rattle.rounding.specs.Cut as cut
use Rattle.rounding.specs.Cut.{downward, halfEven}
use Rattle.cuts.specs.declared.cut.Rule.{Rule}
use Rattle.cuts.specs.declared.cut.Rule.TheVariants.{Downward, HalfEven}

abbrev pub rule_of : Rule → cut.Rule
rule_of Downward = downward
rule_of HalfEven = halfEven
