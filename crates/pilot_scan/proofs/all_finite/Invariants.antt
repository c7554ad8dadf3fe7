use mathlib.Core.Path.{◌≡◌}
use mathlib.Core.Bool.{◌&&◌}
use lib.ListN.{drop}
use Rattle.decoder_parts.specs.Rules.{all_finite}
use Rattle.pilot_scan.proofs.all_finite.Given as goal

abbrev pub invariant-loop-x : goal.invariant-loop-x
invariant-loop-x l = all_finite l.samples ≡ l.ok && all_finite (drop l.x-index l.samples)
