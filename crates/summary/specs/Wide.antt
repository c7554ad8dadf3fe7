-- How many corrections took the wide way in a call with summaries in f32: those of its block's samples. Source:
-- document 02, request 7. Definitions only.
use Rattle.std.specs.Prelude.{List, length, Float}
use Rattle.phase.specs.Correction.{is_wide}
use Rattle.counted.specs.Counted.{Count}
use Rattle.decoder_record.specs.State.{Pll}
use Rattle.decoder.specs.Machine.{block_says}
use Rattle.decoder.specs.F32.{f32}
use Rattle.decoder_fast.specs.Wide.{count_of}
use Rattle.summary_record.specs.Record.{Summary}
use Rattle.summary_record.specs.F32.{unsigned_f32}
use Rattle.summary_call.specs.Summary.{Columns, summary_says}

unfoldable pub summary_count : Pll Float → Summary Float
    → List Float → List Float → List Float → List Float → List Float → Columns Float → Count
summary_count d s t mpx pilot sum difference c =
    let n = length mpx in
    let block = block_says f32 d (length t) n (length pilot) (length sum) (length difference) in
    count_of f32 is_wide (summary_says f32 unsigned_f32 s block n c) d t mpx pilot
