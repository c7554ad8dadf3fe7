-- Demand 3 says something: construction does make decoders, and whatever a decoder is asked, its contracts
-- allow the machine's own replies. Assumes nothing.
use Prim.Native.Nat.{ℕ}
use mathlib.Core.Path.{◌≡◌, refl, sym, ap, ◌∙◌}
use mathlib.Core.Bool.{false}
use mathlib.Core.List.{List}
use lib.ListN.{length}
use lib.IntN.{ℤ, pos, negsuc}
use lib.Ieee.{Float, fin, of_bits, round, to_signed, add, mul, div, lt, le, eq}
use Rattle.rounding.specs.Cut.{rest_of, cut_by}
use Rattle.answers.specs.Answer.{Said, says, made}
use Rattle.std.proofs.Common.{Ok}
use Rattle.counted.specs.Counted.{count_in, carried}
use Rattle.counted.proofs.Answers.{counted_by, counted_by_lem}
use Rattle.phase.specs.Correction.{is_wide}
use Rattle.floats.specs.Floats.{whole_of, to_format}
use Rattle.scale.specs.Scaled.{scaled_of}
use Rattle.decoder_gains.specs.Gains.{Gains, gains_of}
use Rattle.decoder_record.specs.State.{Pll}
use Rattle.decoder_record.specs.Fresh.{fresh_f32, new_f32_of}
use Rattle.decoder_record_q15.specs.Fresh.{fresh_q15, new_q15_of}
use Rattle.decoder_record.specs.declared.pll_f32.StereoPllF32.{StereoPllF32}
use Rattle.decoder_record_q15.specs.declared.pll_q15.StereoPllQ15.{StereoPllQ15}
use Rattle.decoder_record.specs.Records.{pll_of_f32}
use Rattle.decoder.specs.Machine.{Blocked}
use Rattle.decoder.specs.F32.{f32}
use Rattle.decoder_fast.specs.Wide.{wide_up_to, block_count, count_f32}
use Rattle.merged.specs.Merged.{Merged}
use Rattle.summary_record.specs.Record.{Summary}
use Rattle.summary_record.specs.F32.{unsigned_f32}
use Rattle.summary_call.specs.Summary.{Columns, Summarized}
use Rattle.summary.specs.Wide.{summary_count}
use Rattle.calls.specs.Calls.{Brought, Call, Left}
use Rattle.calls.specs.Demand.{Arguments, Constructed, plain_decoder, fast_decoder, Runs}
use Rattle.calls.proofs.Steps.{says_of, block_said, says_summary, summary_said}
use Rattle.calls.proofs.Allowed.{Answer, merged_said, Allows, plainly, fastly}
use Rattle.demand.proofs.Functions.{F32, Q15}

-- ---- a record for each of the machine's states
abbrev record_f32 : Pll Float → StereoPllF32
record_f32 d =
    let g = d.gains in
    let m = d.moving in
    record { kp = g.kp; ki = g.ki; imax = g.imax; beta = g.beta; on = g.on; off = g.off; step0 = g.step0; phase = m.phase; integ = m.integ; level = m.level; stereo = m.stereo; enabled = d.enabled }

abbrev record_q15 : Pll ℤ → StereoPllQ15
record_q15 d =
    let g = d.gains in
    let m = d.moving in
    record { kp = g.kp; ki = g.ki; imax = g.imax; beta = g.beta; on = g.on; off = g.off; step0 = g.step0; phase = m.phase; integ = m.integ; level = m.level; stereo = m.stereo; enabled = d.enabled }

-- how many corrections of a block take the wide way
abbrev wide_in : StereoPllF32 → Brought Float → ℕ
wide_in d b = wide_up_to f32 is_wide b.table b.mpx b.pilot (pll_of_f32 d) (length b.mpx)

abbrev allows_f32 : Allows F32
allows_f32 = record {
  make = record_f32;
  make_summary = λ s. record { counts = s.counts; magnitude = s.magnitude };
  as_made = λ s. refl;
  reply_plain = λ d b a e. record { answer = a; decoder = e };
  reply_fast = λ d b a e. record { answer = counted_by a (wide_in d b); decoder = e };
  reply_summary = λ d b a e s. record { answer = counted_by a (wide_in d b); decoder = e; summary = s };
  enables = λ d. refl;
  disables = λ d. refl;
  resets = λ d. refl;
}

pub plainly_f32 : (d : StereoPllF32) (cs : List (Call Float)) → (ls : List (Left Float StereoPllF32)) × Runs F32 (plain_decoder F32) d cs ls
plainly_f32 = plainly F32 allows_f32 (λ d b a h. h) (λ κs d t x p y z r y' z' h. h)

-- the count of a block that the machine answers so
carried_block : (d : StereoPllF32) (b : Brought Float) (a : Answer) → says a ≡ says_of f32 (pll_of_f32 d) b
    → count_in (counted_by a (wide_in d b)) ≡ count_f32 (pll_of_f32 d) b.table b.mpx b.pilot b.first b.second
unfolding block_count
carried_block d b a e = (counted_by_lem a (wide_in d b)).1 ∙ ap (λ (s : Said). carried s (wide_in d b)) e

carried_summary : (d : StereoPllF32) (s : Summary Float) (b : Brought Float) (c : Columns Float) (a : Answer) → says a ≡ says_summary f32 unsigned_f32 (pll_of_f32 d) s b c
    → count_in (counted_by a (wide_in d b)) ≡ summary_count (pll_of_f32 d) s b.table b.mpx b.pilot b.first b.second c
unfolding summary_count
carried_summary d s b c a e = (counted_by_lem a (wide_in d b)).1 ∙ ap (λ (s : Said). carried s (wide_in d b)) e

pub fastly_f32 : (d : StereoPllF32) (cs : List (Call Float)) → (ls : List (Left Float StereoPllF32)) × Runs F32 (fast_decoder F32) d cs ls
fastly_f32 =
    fastly F32 allows_f32
    (λ d b a h. (
      rw (counted_by_lem a (wide_in d b)).0 h,
      carried_block d b a (ap (λ (r : Blocked Float). r.said) h ∙ block_said f32 (pll_of_f32 d) b),
    ))
    (λ d b a h. (
      rw (counted_by_lem a (wide_in d b)).0 h,
      carried_block d b a (ap (λ (r : Merged Float). r.said) h ∙ merged_said F32 (pll_of_f32 d) b),
    ))
    (λ d s b c a h. (
      rw (counted_by_lem a (wide_in d b)).0 h,
      carried_summary d s b c a (ap (λ (r : Summarized Float). r.said) h ∙ summary_said f32 unsigned_f32 (pll_of_f32 d) s b c),
    ))

abbrev allows_q15 : Allows Q15
allows_q15 = record {
  make = record_q15;
  make_summary = λ s. record { counts = s.counts; magnitude = s.magnitude };
  as_made = λ s. refl;
  reply_plain = λ d b a e. record { answer = a; decoder = e };
  reply_fast = λ d b a e. record { answer = a; decoder = e };
  reply_summary = λ d b a e s. record { answer = a; decoder = e; summary = s };
  enables = λ d. refl;
  disables = λ d. refl;
  resets = λ d. refl;
}

pub plainly_q15 : (d : StereoPllQ15) (cs : List (Call ℤ)) → (ls : List (Left ℤ StereoPllQ15)) × Runs Q15 (plain_decoder Q15) d cs ls
plainly_q15 = plainly Q15 allows_q15 (λ d b a h. h) (λ κs d t x p y z r y' z' h. h)

pub fastly_q15 : (d : StereoPllQ15) (cs : List (Call ℤ)) → (ls : List (Left ℤ StereoPllQ15)) × Runs Q15 (fast_decoder Q15) d cs ls
fastly_q15 = fastly Q15 allows_q15 (λ d b a h. h) (λ d b a h. h) (λ d s b c a h. h)

-- ---- construction does make decoders
abbrev pub some_arguments : Arguments
some_arguments = record { pilot = fin false 1 (pos 14); natural = fin false 1 (pos 7); level = fin false 1 (pos 0); beta = fin false 1 (negsuc 0); rate = fin false 1 (pos 18) }

unfoldable pub some_gains : Gains Float
some_gains = record {
  kp = fin false 6369051672525773 (negsuc 61);
  ki = fin false 884279719003555 (negsuc 67);
  imax = fin false 25 (negsuc 16);
  beta = fin false 1 (negsuc 0);
  on = fin false 3602879701896397 (negsuc 53);
  off = fin false 5404319552844595 (negsuc 54);
  step0 = 268435456;
}

gains_are : let a = some_arguments in gains_of a.pilot a.natural a.level a.beta a.rate ≡ some_gains
unfolding gains_of some_gains scaled_of whole_of cut_by rest_of of_bits round to_signed add mul div
gains_are = refl

made_f32 : let a = some_arguments in new_f32_of a.pilot a.natural a.level a.beta a.rate ≡ made (fresh_f32 some_gains)
unfolding new_f32_of some_gains to_format lt le eq div round
made_f32 = rw gains_are

made_q15 : let a = some_arguments in new_q15_of a.pilot a.natural a.level a.beta a.rate ≡ made (fresh_q15 some_gains)
unfolding new_q15_of some_gains to_format scaled_of whole_of cut_by rest_of to_signed add mul lt le eq div round
made_q15 = rw gains_are

-- an f32 decoder that they make
abbrev pub some_record : StereoPllF32
some_record = record_f32 (fresh_f32 some_gains)

pub some_made : Constructed F32 some_arguments some_record
some_made = (Ok some_record, sym made_f32, refl)

pub some_f32 : (a : Arguments) × (d : StereoPllF32) × Constructed F32 a d
some_f32 = (some_arguments, some_record, some_made)

pub some_q15 : (a : Arguments) × (d : StereoPllQ15) × Constructed Q15 a d
some_q15 = let d = record_q15 (fresh_q15 some_gains) in (some_arguments, d, (Ok d, sym made_q15, refl))
