-- What a scan that says yes tells of each sample. Assumes nothing.
use Rattle.std.proofs.Common.{◌≡◌, ℕ, zero, suc, ◌<◌, true, List, [], ◌∷◌, length, get_or, le_of_suc-le-suc, not-suc-le-zero}
use lib.Ieee.{Float}
use lib.Ieee.Scale.{finite}
use Rattle.answers.proofs.Tests.{and_out}
use Rattle.decoder_parts.specs.Rules.{all_finite}

pub each_finite : (ps : List Float) (i : ℕ) (z : Float) → all_finite ps ≡ true → i < length ps → finite (get_or ps i z) ≡ true
each_finite [] i z h l = absurd (not-suc-le-zero l)
each_finite (p ∷ ps) zero z h l = (and_out (finite p) (all_finite ps) h).0
each_finite (p ∷ ps) (suc i) z h l = each_finite ps i z (and_out (finite p) (all_finite ps) h).1 (le_of_suc-le-suc l)
