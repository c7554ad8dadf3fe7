-- A round's answer by the outcomes of its tests. Assumes nothing.
use Prim.Native.Nat.{ℕ, ◌≤◌, ◌<◌}
use mathlib.Core.Path.{◌≡◌, sym, ap, ◌∙◌}
use mathlib.Core.Bool.{Bool, true, false, ◌&&◌}
use mathlib.Core.List.{List, ◌∷◌}
use borrow.Author.Tests.{le-leb, lt-leb}
use lib.Dec.{leb}
use Rattle.answers.specs.Answer.{Said, turned, rule, first_cause}
use Rattle.rack_waiting.specs.declared.Waiting.{Waiting}
use Rattle.rack_waiting.specs.Beside.{beside}
use Rattle.rack_waiting.specs.Waiting.{cause_of, round_says}

module _ (number allowance table : ℕ) (fits : List Bool) (ws : List Waiting) where
  abbrev own : Said
  own = first_cause (beside (cause_of table) number fits ws)

  abbrev by : Bool → Bool → Bool → Said
  by two eight enough = first_cause (rule 21 (two && eight) ∷ rule 22 enough ∷ beside (cause_of table) number fits ws)

  pub too_few : number < 2 → turned 21 ≡ round_says number allowance table fits ws
  too_few h = ap (λ (t : Bool). by t (leb number 8) (leb number allowance)) (sym (lt-leb 2 number h))

  pub too_many : 2 ≤ number → 8 < number → turned 21 ≡ round_says number allowance table fits ws
  too_many h g =
      ap (λ (t : Bool). by t false (leb number allowance)) (sym (le-leb 2 number h))
      ∙ ap (λ (t : Bool). by (leb 2 number) t (leb number allowance)) (sym (lt-leb number 8 g))

  taken_rack : 2 ≤ number → number ≤ 8 → (t : Bool) → by true true t ≡ by (leb 2 number) (leb number 8) t
  taken_rack h g t =
      ap (λ (b : Bool). by b true t) (sym (le-leb 2 number h))
      ∙ ap (λ (b : Bool). by (leb 2 number) b t) (sym (le-leb number 8 g))

  pub too_little : 2 ≤ number → number ≤ 8 → allowance < number → turned 22 ≡ round_says number allowance table fits ws
  too_little h g l =
      taken_rack h g false ∙ ap (λ (t : Bool). by (leb 2 number) (leb number 8) t) (sym (lt-leb number allowance l))

  pub decoders_decide : 2 ≤ number → number ≤ 8 → number ≤ allowance → own ≡ round_says number allowance table fits ws
  decoders_decide h g l =
      taken_rack h g true ∙ ap (λ (t : Bool). by (leb 2 number) (leb number 8) t) (sym (le-leb number allowance l))
