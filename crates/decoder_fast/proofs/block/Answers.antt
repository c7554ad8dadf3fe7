use Prim.Native.Nat.{ℕ}
use mathlib.Core.Path.{◌≡◌, refl, ◌∙◌}
use mathlib.Core.List.{List, ◌∷◌}
use lib.ListN.{length}
use lib.Ieee.{Float}
use Rattle.answers.specs.Answer.{Said, accepted, says_refusal, accepts, rule, first_cause}
use Rattle.answers.proofs.Causes.{refuses}
use Rattle.phase.specs.Correction.{is_wide}
use Rattle.counted.specs.Counted.{count, none}
use Rattle.decoder_record.specs.State.{Pll}
use Rattle.decoder.specs.Machine.{run_of, block_of, length_causes}
use Rattle.decoder.specs.F32.{f32}
use Rattle.decoder_record.specs.Records.{pll_of_f32}
use Rattle.pilot_scan.proofs.Claims.{told}
use Rattle.decoder.proofs.Blocks.{refused, whole_table, runs, ran_accepted}
use Rattle.decoder_fast.specs.Wide.{wide_up_to, count_of, count_f32}
use Rattle.decoder_fast.proofs.Counting.{carries_none, carries, block_count_lem}
use Rattle.std.proofs.Common.{true, false}
use Rattle.decoder_fast.proofs.block.Goals as goal

-- what a block whose lengths serve leaves, from what its samples left and how many of their corrections went wide
module _ (d : Pll Float) (t mpx pilot sum difference : List Float) (s : Said)
    (e : s ≡ first_cause (rule 0 true ∷ length_causes (length t) (length mpx) (length pilot) (length sum) (length difference))) where
  counts : count_of f32 is_wide s d t mpx pilot ≡ count_f32 d t mpx pilot sum difference
  counts = block_count_lem f32 is_wide t mpx pilot d sum difference refl s e

  turned : accepts s ≡ false
      → (record { said = s; sum = sum; difference = difference; pll = d } ≡ block_of f32 d t mpx pilot sum difference)
      × (none ≡ count_f32 d t mpx pilot sum difference)
  turned h = (refused f32 t mpx pilot sum difference d refl s e h, carries_none s _ h ∙ counts)

  done : accepts s ≡ true → {sums differences : List Float} {next : Pll Float} {n : ℕ}
      → (record { said = accepted; sum = sums; difference = differences; pll = next } ≡ run_of f32 d t mpx pilot)
      × (n ≡ wide_up_to f32 is_wide t mpx pilot d (length mpx))
      → (record { said = accepted; sum = sums; difference = differences; pll = next } ≡ block_of f32 d t mpx pilot sum difference)
      × (count n ≡ count_f32 d t mpx pilot sum difference)
  done h r = (
    ran_accepted f32 t mpx pilot sum difference d refl s e h r.0,
    carries s h r.1 ∙ counts,
  )

pub returns-in-Err : goal.returns-in-Err
returns-in-Err c =
    let a = c.args in
    turned (pll_of_f32 a.d) a.table.now a.mpx.now a.pilot.now a.sum.now a.difference.now (says_refusal c.in-Err.refusal) c.in-Err.ensures (refuses c.in-Err.refusal)

pub full_table-cosines-requires : goal.full_table-cosines-requires
full_table-cosines-requires c =
    let a = c.args in
    whole_table f32 a.table.now a.mpx.now a.pilot.now a.sum.now a.difference.now (pll_of_f32 a.d) refl accepted c.in_default.ensures refl

pub run_clean-r-requires : goal.run_clean-r-requires
run_clean-r-requires c =
    let a = c.args in
    let k = runs f32 a.table.now a.mpx.now a.pilot.now a.sum.now a.difference.now (pll_of_f32 a.d) refl accepted c.in_default.ensures refl in
    (k.0, k.1, k.2, told a.pilot.now c.scan.result c.scan.ensures c.if-scan.true)

pub returns-then-scan : goal.returns-then-scan
returns-then-scan c =
    let a = c.args in
    let r = c.run_clean-r.ensures in
    done (pll_of_f32 a.d) a.table.now a.mpx.now a.pilot.now a.sum.now a.difference.now accepted c.in_default.ensures refl
    (rw c.full_table-cosines.ensures at r.leaves, rw c.full_table-cosines.ensures at r.wide)

pub run_checked-r-requires : goal.run_checked-r-requires
run_checked-r-requires c =
    let a = c.args in
    let k = runs f32 a.table.now a.mpx.now a.pilot.now a.sum.now a.difference.now (pll_of_f32 a.d) refl accepted c.in_default.ensures refl in
    (k.0, k.1, k.2)

pub returns : goal.returns
returns c =
    let a = c.args in
    let r = c.run_checked-r.ensures in
    done (pll_of_f32 a.d) a.table.now a.mpx.now a.pilot.now a.sum.now a.difference.now accepted c.in_default.ensures refl
    (rw c.full_table-cosines.ensures at r.leaves, rw c.full_table-cosines.ensures at r.wide)
