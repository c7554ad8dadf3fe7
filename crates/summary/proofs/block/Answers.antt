use mathlib.Core.Path.{◌≡◌, refl, ap, ◌∙◌}
use lib.Ieee.{Float}
use Rattle.phase.specs.Correction.{is_wide}
use Rattle.answers.specs.Answer.{Said, accepted, says_refusal}
use Rattle.answers.proofs.Causes.{refuses}
use Rattle.decoder_record.specs.Records.{pll_of_f32}
use Rattle.decoder.specs.F32.{f32}
use Rattle.decoder_fast.specs.Wide.{count_of}
use Rattle.decoder_fast.proofs.Counting.{carries_none, carries}
use Rattle.summary_record.specs.F32.{unsigned_f32, summary_of_f32}
use Rattle.summary_call.specs.Summary.{Columns, summary_says}
use Rattle.decoder.specs.Machine.{block_says}
use Rattle.summary.specs.Wide.{summary_count}
use Rattle.summary_call.proofs.Ways.{says_is, turned_back, fit_summary, asked, carried_out}
use Rattle.std.proofs.Common.{List, length}
use Rattle.decoder_record.specs.State.{Pll}
use Rattle.summary_record.specs.Record.{Summary}
use Rattle.summary.proofs.block.Goals as goal

-- the count that an answer carries, s, is the definition's where s is what the definition says
carried : (d : Pll Float) (m : Summary Float) (t mpx pilot sum difference : List Float) (held : Columns Float) {s : Said}
    → s ≡ summary_says f32 unsigned_f32 m (block_says f32 d (length t) (length mpx) (length pilot) (length sum) (length difference)) (length mpx) held
    → count_of f32 is_wide s d t mpx pilot ≡ summary_count d m t mpx pilot sum difference held
unfolding summary_count
carried d m t mpx pilot sum difference held e = ap (λ (z : Said). count_of f32 is_wide z d t mpx pilot) e

pub returns-in-Err : goal.returns-in-Err
returns-in-Err c =
    let a = c.args in
    let held : Columns Float = record { stereo = a.stereos.now; mono = a.monos.now; changes = a.changes.now; magnitude = a.magnitudes.now } in
    record {
      leaves = turned_back f32 unsigned_f32 (pll_of_f32 a.d) (summary_of_f32 a.s) a.table.now a.mpx.now a.pilot.now a.sum.now a.difference.now held c.is_fit.ensures c.block_lengths-own.ensures c.in-Err.ensures (refuses c.in-Err.refusal);
      count = carries_none (says_refusal c.in-Err.refusal) _ (refuses c.in-Err.refusal)
          ∙ carried (pll_of_f32 a.d) (summary_of_f32 a.s) a.table.now a.mpx.now a.pilot.now a.sum.now a.difference.now held (says_is f32 unsigned_f32 (pll_of_f32 a.d) (summary_of_f32 a.s) a.table.now a.mpx.now a.pilot.now a.sum.now a.difference.now held c.is_fit.ensures c.block_lengths-own.ensures c.in-Err.ensures);
    }

pub full_table-cosines-requires : goal.full_table-cosines-requires
full_table-cosines-requires c =
    let a = c.args in
    let held : Columns Float = record { stereo = a.stereos.now; mono = a.monos.now; changes = a.changes.now; magnitude = a.magnitudes.now } in
    (asked f32 unsigned_f32 (pll_of_f32 a.d) (summary_of_f32 a.s) a.table.now a.mpx.now a.pilot.now a.sum.now a.difference.now held c.is_fit.ensures c.block_lengths-own.ensures c.in_default.ensures refl).table

pub run-requires : goal.run-requires
run-requires c =
    let a = c.args in
    let held : Columns Float = record { stereo = a.stereos.now; mono = a.monos.now; changes = a.changes.now; magnitude = a.magnitudes.now } in
    let g = asked f32 unsigned_f32 (pll_of_f32 a.d) (summary_of_f32 a.s) a.table.now a.mpx.now a.pilot.now a.sum.now a.difference.now held c.is_fit.ensures c.block_lengths-own.ensures c.in_default.ensures refl in
    record { lengths = g.even; columns = g.filled; summary = fit_summary f32 unsigned_f32 (pll_of_f32 a.d) (summary_of_f32 a.s) a.table.now a.mpx.now a.pilot.now a.sum.now a.difference.now held c.is_fit.ensures c.block_lengths-own.ensures c.in_default.ensures refl }

pub returns : goal.returns
returns c =
    let a = c.args in
    let held : Columns Float = record { stereo = a.stereos.now; mono = a.monos.now; changes = a.changes.now; magnitude = a.magnitudes.now } in
    let r = c.run.ensures in
    record {
      leaves = carried_out f32 unsigned_f32 (pll_of_f32 a.d) (summary_of_f32 a.s) a.table.now a.mpx.now a.pilot.now a.sum.now a.difference.now held c.is_fit.ensures c.block_lengths-own.ensures c.in_default.ensures refl (rw c.full_table-cosines.ensures at r.leaves);
      count = (rw c.full_table-cosines.ensures at r.count)
          ∙ carries accepted refl refl
          ∙ carried (pll_of_f32 a.d) (summary_of_f32 a.s) a.table.now a.mpx.now a.pilot.now a.sum.now a.difference.now held (says_is f32 unsigned_f32 (pll_of_f32 a.d) (summary_of_f32 a.s) a.table.now a.mpx.now a.pilot.now a.sum.now a.difference.now held c.is_fit.ensures c.block_lengths-own.ensures c.in_default.ensures);
    }
