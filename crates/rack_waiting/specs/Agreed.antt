-- Parts that agree: what an accepted round's loop over the parts asks for. Definitions only.
use Rattle.std.specs.Prelude.{ℕ, zero, suc, ◌≤◌, List, [], ◌∷◌, ◌≡◌}
use Rattle.rack_waiting.specs.declared.Waiting.{Waiting}
use Rattle.rack_waiting.specs.Waiting.{rest_of}

-- the four are equally long, and none passes what is left
pub record Alike (w left : Waiting) : Type 0 where
  pub pilot : w.pilot ≡ w.mpx
  pub sum : w.sum ≡ w.mpx
  pub difference : w.difference ≡ w.mpx
  pub in_mpx : w.mpx ≤ left.mpx
  pub in_pilot : w.mpx ≤ left.pilot
  pub in_sum : w.mpx ≤ left.sum
  pub in_difference : w.mpx ≤ left.difference

-- .. of the first n decoders
unfoldable pub Agreed : ℕ → List Waiting → Waiting → Type 0
Agreed zero ws left = Unit {0}
Agreed (suc n) [] left = Unit {0}
Agreed (suc n) (w ∷ ws) left = Alike w left × Agreed n ws (rest_of w left)

-- ---- for decoders that have slices of their own: the four of each of the first n are equally long
unfoldable pub Even : ℕ → List Waiting → Type 0
Even zero ws = Unit {0}
Even (suc n) [] = Unit {0}
Even (suc n) (w ∷ ws) = ((w.pilot ≡ w.mpx) × (w.sum ≡ w.mpx) × (w.difference ≡ w.mpx)) × Even n ws
