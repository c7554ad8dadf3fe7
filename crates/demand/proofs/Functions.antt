-- Demand 3 and request 4 of this program: the functions of both formats, and the whole claims. specs/Demand.antt,
-- specs/Summaries.antt and specs/Callable.antt say what they mean; here stand only the functions' generated names.
-- Assumes nothing.
-- `F.Reads.Learnt` is what a caller of F learns from F's contract, of the lifetimes, the arguments, the result
-- and the parameters at exit; `F.Kinds` and `F.Symbol` are F's signature and code.
use mathlib.Core.Bool.{true}
use mathlib.Core.Path.{◌≡◌}
use lib.Dec.{T}
use lib.IntN.{ℤ, neg_ℤ}
use lib.Ieee.{Float, neg, le}
use Rattle.std.proofs.Common.{Result}
use Rattle.answers.specs.declared.answer.Refusal.{Refusal}
use Rattle.answers.specs.Answer.{says, says_made}
use Rattle.decoder_record_q15.specs.Fit.{within_z, fit_q15}
use Rattle.decoder_record.specs.Fresh.{new_f32_of}
use Rattle.decoder_record_q15.specs.Fresh.{new_q15_of}
use Rattle.decoder_record.specs.Records.{pll_of_f32}
use Rattle.decoder_record_q15.specs.Records.{pll_of_q15}
use Rattle.decoder_record.specs.declared.pll_f32.StereoPllF32.{StereoPllF32}
use Rattle.decoder_record_q15.specs.declared.pll_q15.StereoPllQ15.{StereoPllQ15}
use Rattle.counted.specs.Counted.{said_in}
use Rattle.decoder.specs.declared.parts.ReplyF32.{ReplyF32}
use Rattle.decoder_fast.specs.declared.FastReply.{FastReply}
use Rattle.decoder_q15.specs.declared.parts.ReplyQ15.{ReplyQ15}
use Rattle.summary_record.specs.F32.{summary_of_f32}
use Rattle.summary_record.specs.declared.in_f32.SummaryF32.{SummaryF32}
use Rattle.summary.specs.declared.SummarizedF32.{SummarizedF32}
use Rattle.summary_record.specs.Q15.{summary_of_q15}
use Rattle.summary_record.specs.declared.in_q15.SummaryQ15.{SummaryQ15}
use Rattle.summary_q15.specs.declared.SummarizedQ15.{SummarizedQ15}
use Rattle.calls.specs.Events.{UnitTables, Pilots16}
use Rattle.demand.specs.Cores.{core_f32, core_q15}
use Rattle.demand.specs.Callable.{Callable}
use Rattle.calls.specs.Demand.{Format, OwnMatrix, OwnSummary, Demand}
use Rattle.calls.specs.Summaries.{SummaryClaims}
use Rattle.decoder_record.proofs.pll_f32.StereoPllF32.new.Reads as f32-make
use Rattle.decoder_record.proofs.pll_f32.StereoPllF32.new.Kinds as f32-make-kinds
use Rattle.decoder_record.proofs.pll_f32.StereoPllF32.new.Symbol as f32-make-symbol
use Rattle.decoder.proofs.plain.block.Reads as f32-plain
use Rattle.decoder.proofs.plain.block.Kinds as f32-plain-kinds
use Rattle.decoder.proofs.plain.block.Symbol as f32-plain-symbol
use Rattle.decoder_fast.proofs.block.Reads as f32-fast
use Rattle.decoder_fast.proofs.block.Kinds as f32-fast-kinds
use Rattle.decoder_fast.proofs.block.Symbol as f32-fast-symbol
use Rattle.merged.proofs.in_f32.block.Reads as f32-merged
use Rattle.merged.proofs.in_f32.block.Kinds as f32-merged-kinds
use Rattle.merged.proofs.in_f32.block.Symbol as f32-merged-symbol
use Rattle.summary.proofs.block.Reads as f32-summary
use Rattle.summary.proofs.block.Kinds as f32-summary-kinds
use Rattle.summary.proofs.block.Symbol as f32-summary-symbol
use Rattle.decoder_record.proofs.pll_f32.StereoPllF32.enable.Reads as f32-enable
use Rattle.decoder_record.proofs.pll_f32.StereoPllF32.enable.Kinds as f32-enable-kinds
use Rattle.decoder_record.proofs.pll_f32.StereoPllF32.enable.Symbol as f32-enable-symbol
use Rattle.decoder_record.proofs.pll_f32.StereoPllF32.disable.Reads as f32-disable
use Rattle.decoder_record.proofs.pll_f32.StereoPllF32.disable.Kinds as f32-disable-kinds
use Rattle.decoder_record.proofs.pll_f32.StereoPllF32.disable.Symbol as f32-disable-symbol
use Rattle.decoder_record.proofs.pll_f32.StereoPllF32.reset.Reads as f32-reset
use Rattle.decoder_record.proofs.pll_f32.StereoPllF32.reset.Kinds as f32-reset-kinds
use Rattle.decoder_record.proofs.pll_f32.StereoPllF32.reset.Symbol as f32-reset-symbol
use Rattle.decoder_record_q15.proofs.pll_q15.StereoPllQ15.new.Reads as q15-make
use Rattle.decoder_record_q15.proofs.pll_q15.StereoPllQ15.new.Kinds as q15-make-kinds
use Rattle.decoder_record_q15.proofs.pll_q15.StereoPllQ15.new.Symbol as q15-make-symbol
use Rattle.decoder_q15.proofs.plain.block.Reads as q15-plain
use Rattle.decoder_q15.proofs.plain.block.Kinds as q15-plain-kinds
use Rattle.decoder_q15.proofs.plain.block.Symbol as q15-plain-symbol
use Rattle.decoder_q15.proofs.fast.block.Reads as q15-fast
use Rattle.decoder_q15.proofs.fast.block.Kinds as q15-fast-kinds
use Rattle.decoder_q15.proofs.fast.block.Symbol as q15-fast-symbol
use Rattle.merged_q15.proofs.in_q15.block.Reads as q15-merged
use Rattle.merged_q15.proofs.in_q15.block.Kinds as q15-merged-kinds
use Rattle.merged_q15.proofs.in_q15.block.Symbol as q15-merged-symbol
use Rattle.summary_q15.proofs.block.Reads as q15-summary
use Rattle.summary_q15.proofs.block.Kinds as q15-summary-kinds
use Rattle.summary_q15.proofs.block.Symbol as q15-summary-symbol
use Rattle.decoder_record_q15.proofs.pll_q15.StereoPllQ15.enable.Reads as q15-enable
use Rattle.decoder_record_q15.proofs.pll_q15.StereoPllQ15.enable.Kinds as q15-enable-kinds
use Rattle.decoder_record_q15.proofs.pll_q15.StereoPllQ15.enable.Symbol as q15-enable-symbol
use Rattle.decoder_record_q15.proofs.pll_q15.StereoPllQ15.disable.Reads as q15-disable
use Rattle.decoder_record_q15.proofs.pll_q15.StereoPllQ15.disable.Kinds as q15-disable-kinds
use Rattle.decoder_record_q15.proofs.pll_q15.StereoPllQ15.disable.Symbol as q15-disable-symbol
use Rattle.decoder_record_q15.proofs.pll_q15.StereoPllQ15.reset.Reads as q15-reset
use Rattle.decoder_record_q15.proofs.pll_q15.StereoPllQ15.reset.Kinds as q15-reset-kinds
use Rattle.decoder_record_q15.proofs.pll_q15.StereoPllQ15.reset.Symbol as q15-reset-symbol

-- f32: the integrator is in -imax..=imax if every table entry of the accepted blocks lies in -1 to 1
abbrev pub F32 : Format Float StereoPllF32 ReplyF32 FastReply (Result StereoPllF32 Refusal) SummaryF32 SummarizedF32
F32 = record {
  core = core_f32;
  new_of = λ a. new_f32_of a.pilot a.natural a.level a.beta a.rate;
  state = pll_of_f32;
  plain_reply = λ r. record { said = says r.answer; decoder = r.decoder };
  fast_reply = λ r. record { said = said_in r.answer; decoder = r.decoder };
  built = says_made;
  summary_state = summary_of_f32;
  replied = λ r. record { said = said_in r.answer; decoder = r.decoder; summary = r.summary };
  make = λ a r. f32-make.Learnt tt (a.pilot, (a.natural, (a.level, (a.beta, (a.rate, tt))))) r (a.pilot, (a.natural, (a.level, (a.beta, (a.rate, tt)))));
  plain = λ κs d t x p y z r y' z'. f32-plain.Learnt κs (d, (t, (x, (p, (y, (z, tt)))))) r (d, (t, (x, (p, (y', (z', tt))))));
  fast = λ κs d t x p y z r y' z'. f32-fast.Learnt κs (d, (t, (x, (p, (y, (z, tt)))))) r (d, (t, (x, (p, (y', (z', tt))))));
  merged = λ κs d t x p y z r y' z'. f32-merged.Learnt κs (d, (t, (x, (p, (y, (z, tt)))))) r (d, (t, (x, (p, (y', (z', tt))))));
  summary = λ κs d s t x p y z e f g m r y' z' e' f' g' m'. f32-summary.Learnt κs (d, (s, (t, (x, (p, (y, (z, (e, (f, (g, (m, tt))))))))))) r (d, (s, (t, (x, (p, (y', (z', (e', (f', (g', (m', tt)))))))))));
  enable = λ d e. f32-enable.Learnt tt (d, tt) e (d, tt);
  disable = λ d e. f32-disable.Learnt tt (d, tt) e (d, tt);
  reset = λ d e. f32-reset.Learnt tt (d, tt) e (d, tt);
  Premise = UnitTables;
  Within = λ d. T (le (neg d.gains.imax) d.moving.integ) × T (le d.moving.integ d.gains.imax);
}

-- Q15: the integrator is in -imax..=imax, and the record is fit, so that cause 0 is never met
abbrev pub Q15 : Format ℤ StereoPllQ15 ReplyQ15 ReplyQ15 (Result StereoPllQ15 Refusal) SummaryQ15 SummarizedQ15
Q15 = record {
  core = core_q15;
  new_of = λ a. new_q15_of a.pilot a.natural a.level a.beta a.rate;
  state = pll_of_q15;
  plain_reply = λ r. record { said = says r.answer; decoder = r.decoder };
  fast_reply = λ r. record { said = says r.answer; decoder = r.decoder };
  built = says_made;
  summary_state = summary_of_q15;
  replied = λ r. record { said = says r.answer; decoder = r.decoder; summary = r.summary };
  make = λ a r. q15-make.Learnt tt (a.pilot, (a.natural, (a.level, (a.beta, (a.rate, tt))))) r (a.pilot, (a.natural, (a.level, (a.beta, (a.rate, tt)))));
  plain = λ κs d t x p y z r y' z'. q15-plain.Learnt κs (d, (t, (x, (p, (y, (z, tt)))))) r (d, (t, (x, (p, (y', (z', tt))))));
  fast = λ κs d t x p y z r y' z'. q15-fast.Learnt κs (d, (t, (x, (p, (y, (z, tt)))))) r (d, (t, (x, (p, (y', (z', tt))))));
  merged = λ κs d t x p y z r y' z'. q15-merged.Learnt κs (d, (t, (x, (p, (y, (z, tt)))))) r (d, (t, (x, (p, (y', (z', tt))))));
  summary = λ κs d s t x p y z e f g m r y' z' e' f' g' m'. q15-summary.Learnt κs (d, (s, (t, (x, (p, (y, (z, (e, (f, (g, (m, tt))))))))))) r (d, (s, (t, (x, (p, (y', (z', (e', (f', (g', (m', tt)))))))))));
  enable = λ d e. q15-enable.Learnt tt (d, tt) e (d, tt);
  disable = λ d e. q15-disable.Learnt tt (d, tt) e (d, tt);
  reset = λ d e. q15-reset.Learnt tt (d, tt) e (d, tt);
  Premise = Pilots16;
  Within = λ d. (within_z (neg_ℤ d.gains.imax) d.gains.imax d.moving.integ ≡ true) × (fit_q15 d ≡ true);
}

-- the whole of it: each function may be called with any arguments, and what its caller then learns agrees with
-- the machine over every list; and for any format at all, also one whose plain block is wrong, the plain
-- decoder's merged block and its summaries are made from that block
pub record Demand3 : Type 2 where
  pub f32_make_callable : Callable 0 f32-make-kinds.ps f32-make-kinds.r f32-make-symbol.code f32-make-symbol.name f32-make.Learnt
  pub f32_plain_callable : Callable 5 f32-plain-kinds.ps f32-plain-kinds.r f32-plain-symbol.code f32-plain-symbol.name f32-plain.Learnt
  pub f32_fast_callable : Callable 5 f32-fast-kinds.ps f32-fast-kinds.r f32-fast-symbol.code f32-fast-symbol.name f32-fast.Learnt
  pub f32_merged_callable : Callable 5 f32-merged-kinds.ps f32-merged-kinds.r f32-merged-symbol.code f32-merged-symbol.name f32-merged.Learnt
  pub f32_summary_callable : Callable 9 f32-summary-kinds.ps f32-summary-kinds.r f32-summary-symbol.code f32-summary-symbol.name f32-summary.Learnt
  pub f32_enable_callable : Callable 0 f32-enable-kinds.ps f32-enable-kinds.r f32-enable-symbol.code f32-enable-symbol.name f32-enable.Learnt
  pub f32_disable_callable : Callable 0 f32-disable-kinds.ps f32-disable-kinds.r f32-disable-symbol.code f32-disable-symbol.name f32-disable.Learnt
  pub f32_reset_callable : Callable 0 f32-reset-kinds.ps f32-reset-kinds.r f32-reset-symbol.code f32-reset-symbol.name f32-reset.Learnt
  pub q15_make_callable : Callable 0 q15-make-kinds.ps q15-make-kinds.r q15-make-symbol.code q15-make-symbol.name q15-make.Learnt
  pub q15_plain_callable : Callable 5 q15-plain-kinds.ps q15-plain-kinds.r q15-plain-symbol.code q15-plain-symbol.name q15-plain.Learnt
  pub q15_fast_callable : Callable 5 q15-fast-kinds.ps q15-fast-kinds.r q15-fast-symbol.code q15-fast-symbol.name q15-fast.Learnt
  pub q15_merged_callable : Callable 5 q15-merged-kinds.ps q15-merged-kinds.r q15-merged-symbol.code q15-merged-symbol.name q15-merged.Learnt
  pub q15_summary_callable : Callable 9 q15-summary-kinds.ps q15-summary-kinds.r q15-summary-symbol.code q15-summary-symbol.name q15-summary.Learnt
  pub q15_enable_callable : Callable 0 q15-enable-kinds.ps q15-enable-kinds.r q15-enable-symbol.code q15-enable-symbol.name q15-enable.Learnt
  pub q15_disable_callable : Callable 0 q15-disable-kinds.ps q15-disable-kinds.r q15-disable-symbol.code q15-disable-symbol.name q15-disable.Learnt
  pub q15_reset_callable : Callable 0 q15-reset-kinds.ps q15-reset-kinds.r q15-reset-symbol.code q15-reset-symbol.name q15-reset.Learnt
  pub own_matrix : {A D R Q N S T : Type 0} (K : Format A D R Q N S T) → OwnMatrix K
  pub own_summary_lem : {A D R Q N S T : Type 0} (K : Format A D R Q N S T) → OwnSummary K
  pub in_f32 : Demand F32
  pub in_q15 : Demand Q15

-- request 4's claims, of the same functions
pub record Request4 : Type 0 where
  pub in_f32 : SummaryClaims F32
  pub in_q15 : SummaryClaims Q15
