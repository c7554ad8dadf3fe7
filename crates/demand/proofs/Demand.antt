-- Demand 3 and request 4 are proved: each format shows what proofs/Agreement.antt asks for. Assumes nothing.
use mathlib.Core.Path.{◌≡◌, refl, sym, ap, ◌∙◌}
use lib.IntN.{ℤ}
use lib.Ieee.{Float}
use Rattle.answers.specs.Answer.{map_built}
use Rattle.decoder_record.specs.State.{Pll}
use Rattle.decoder_record.specs.Records.{pll_of_f32, says_f32}
use Rattle.decoder_record_q15.specs.Records.{pll_of_q15, says_q15}
use Rattle.decoder_record_q15.proofs.Fit.{fitted}
use Rattle.decoder_record.proofs.Fresh.{made_f32}
use Rattle.decoder_record_q15.proofs.Fresh.{made_q15, fit_new}
use Rattle.decoder_q15.specs.Q15.{q15}
use Rattle.summary_record.proofs.Sign.{unsigned_f32_lem}
use Rattle.summary_record.proofs.Negative.{unsigned_q15_lem}
use Rattle.calls.specs.Events.{after}
use Rattle.calls.proofs.LimitF32.{bounded_new, bounded_always}
use Rattle.calls.proofs.LimitQ15.{fit_always}
use Rattle.calls.proofs.Summaries.{summary_claims}
use Rattle.calls.proofs.Agreement.{own_matrix, own_summary_lem, Shown, demand}
use Rattle.demand.proofs.Functions.{F32, Q15, Demand3, Request4}
use Rattle.demand.proofs.Witness.{some_f32, plainly_f32, fastly_f32, some_q15, plainly_q15, fastly_q15}
use Rattle.decoder_record.proofs.pll_f32.StereoPllF32.new.Reads as f32-make
use Rattle.decoder_record.proofs.pll_f32.StereoPllF32.new.Symbol as f32-make-symbol
use Rattle.decoder_record.proofs.pll_f32.StereoPllF32.new.Met as f32-make-met
use Rattle.decoder.proofs.plain.block.Reads as f32-plain
use Rattle.decoder.proofs.plain.block.Symbol as f32-plain-symbol
use Rattle.decoder.proofs.plain.block.Met as f32-plain-met
use Rattle.decoder_fast.proofs.block.Reads as f32-fast
use Rattle.decoder_fast.proofs.block.Symbol as f32-fast-symbol
use Rattle.decoder_fast.proofs.block.Met as f32-fast-met
use Rattle.merged.proofs.in_f32.block.Reads as f32-merged
use Rattle.merged.proofs.in_f32.block.Symbol as f32-merged-symbol
use Rattle.merged.proofs.in_f32.block.Met as f32-merged-met
use Rattle.summary.proofs.block.Reads as f32-summary
use Rattle.summary.proofs.block.Symbol as f32-summary-symbol
use Rattle.summary.proofs.block.Met as f32-summary-met
use Rattle.decoder_record.proofs.pll_f32.StereoPllF32.enable.Reads as f32-enable
use Rattle.decoder_record.proofs.pll_f32.StereoPllF32.enable.Symbol as f32-enable-symbol
use Rattle.decoder_record.proofs.pll_f32.StereoPllF32.enable.Met as f32-enable-met
use Rattle.decoder_record.proofs.pll_f32.StereoPllF32.disable.Reads as f32-disable
use Rattle.decoder_record.proofs.pll_f32.StereoPllF32.disable.Symbol as f32-disable-symbol
use Rattle.decoder_record.proofs.pll_f32.StereoPllF32.disable.Met as f32-disable-met
use Rattle.decoder_record.proofs.pll_f32.StereoPllF32.reset.Reads as f32-reset
use Rattle.decoder_record.proofs.pll_f32.StereoPllF32.reset.Symbol as f32-reset-symbol
use Rattle.decoder_record.proofs.pll_f32.StereoPllF32.reset.Met as f32-reset-met
use Rattle.decoder_record_q15.proofs.pll_q15.StereoPllQ15.new.Reads as q15-make
use Rattle.decoder_record_q15.proofs.pll_q15.StereoPllQ15.new.Symbol as q15-make-symbol
use Rattle.decoder_record_q15.proofs.pll_q15.StereoPllQ15.new.Met as q15-make-met
use Rattle.decoder_q15.proofs.plain.block.Reads as q15-plain
use Rattle.decoder_q15.proofs.plain.block.Symbol as q15-plain-symbol
use Rattle.decoder_q15.proofs.plain.block.Met as q15-plain-met
use Rattle.decoder_q15.proofs.fast.block.Reads as q15-fast
use Rattle.decoder_q15.proofs.fast.block.Symbol as q15-fast-symbol
use Rattle.decoder_q15.proofs.fast.block.Met as q15-fast-met
use Rattle.merged_q15.proofs.in_q15.block.Reads as q15-merged
use Rattle.merged_q15.proofs.in_q15.block.Symbol as q15-merged-symbol
use Rattle.merged_q15.proofs.in_q15.block.Met as q15-merged-met
use Rattle.summary_q15.proofs.block.Reads as q15-summary
use Rattle.summary_q15.proofs.block.Symbol as q15-summary-symbol
use Rattle.summary_q15.proofs.block.Met as q15-summary-met
use Rattle.decoder_record_q15.proofs.pll_q15.StereoPllQ15.enable.Reads as q15-enable
use Rattle.decoder_record_q15.proofs.pll_q15.StereoPllQ15.enable.Symbol as q15-enable-symbol
use Rattle.decoder_record_q15.proofs.pll_q15.StereoPllQ15.enable.Met as q15-enable-met
use Rattle.decoder_record_q15.proofs.pll_q15.StereoPllQ15.disable.Reads as q15-disable
use Rattle.decoder_record_q15.proofs.pll_q15.StereoPllQ15.disable.Symbol as q15-disable-symbol
use Rattle.decoder_record_q15.proofs.pll_q15.StereoPllQ15.disable.Met as q15-disable-met
use Rattle.decoder_record_q15.proofs.pll_q15.StereoPllQ15.reset.Reads as q15-reset
use Rattle.decoder_record_q15.proofs.pll_q15.StereoPllQ15.reset.Symbol as q15-reset-symbol
use Rattle.decoder_record_q15.proofs.pll_q15.StereoPllQ15.reset.Met as q15-reset-met

pub shown_f32 : Shown F32
shown_f32 = record {
  plain_right = λ κs d t x p y z r y' z' h. h;
  fast_right = λ κs d t x p y z r y' z' h. h.0;
  merged_right = λ κs d t x p y z r y' z' h. h.0;
  summary_right = λ κs d s t x p y z e f g m r y' z' e' f' g' m' h. h.0;
  unsigned_shown = unsigned_f32_lem;
  sets_right = record { enables = λ d e h. h; disables = λ d e h. h; resets = λ d e h. h };
  make_right = λ a r h. h;
  mono_new = λ a m h. sym (ap (λ (d : Pll Float). d.moving.stereo) (made_f32 a.pilot a.natural a.level a.beta a.rate m h).1);
  limited = λ a m h es u. let b = bounded_always m es (bounded_new a.pilot a.natural a.level a.beta a.rate m h) u in (b.low, b.high);
  some_decoder = some_f32;
  some_plain = plainly_f32;
  some_fast = fastly_f32;
}

shown_q15 : Shown Q15
shown_q15 = record {
  plain_right = λ κs d t x p y z r y' z' h. h;
  fast_right = λ κs d t x p y z r y' z' h. h;
  merged_right = λ κs d t x p y z r y' z' h. h;
  summary_right = λ κs d s t x p y z e f g m r y' z' e' f' g' m' h. h;
  unsigned_shown = unsigned_q15_lem;
  sets_right = record { enables = λ d e h. h; disables = λ d e h. h; resets = λ d e h. h };
  make_right = λ a r h. h;
  mono_new = λ a m h. sym (ap (λ (d : Pll ℤ). d.moving.stereo) (made_q15 a.pilot a.natural a.level a.beta a.rate m h).2);
  limited = λ a m h es s. let f = fit_always m es (fit_new a.pilot a.natural a.level a.beta a.rate m h) s in ((fitted (after q15 m es) f).integ, f);
  some_decoder = some_q15;
  some_plain = plainly_q15;
  some_fast = fastly_q15;
}

pub demand3 : Demand3
demand3 = record {
  f32_make_callable = λ w wired γ k same. f32-make.known w γ k (w.𝓡.env f32-make-symbol.name) same (f32-make-met.met w.𝓤 w.𝓛 w.𝓜 w.𝓡 wired);
  f32_plain_callable = λ w wired γ k same. f32-plain.known w γ k (w.𝓡.env f32-plain-symbol.name) same (f32-plain-met.met w.𝓤 w.𝓛 w.𝓜 w.𝓡 wired);
  f32_fast_callable = λ w wired γ k same. f32-fast.known w γ k (w.𝓡.env f32-fast-symbol.name) same (f32-fast-met.met w.𝓤 w.𝓛 w.𝓜 w.𝓡 wired);
  f32_merged_callable = λ w wired γ k same. f32-merged.known w γ k (w.𝓡.env f32-merged-symbol.name) same (f32-merged-met.met w.𝓤 w.𝓛 w.𝓜 w.𝓡 wired);
  f32_summary_callable = λ w wired γ k same. f32-summary.known w γ k (w.𝓡.env f32-summary-symbol.name) same (f32-summary-met.met w.𝓤 w.𝓛 w.𝓜 w.𝓡 wired);
  f32_enable_callable = λ w wired γ k same. f32-enable.known w γ k (w.𝓡.env f32-enable-symbol.name) same (f32-enable-met.met w.𝓤 w.𝓛 w.𝓜 w.𝓡 wired);
  f32_disable_callable = λ w wired γ k same. f32-disable.known w γ k (w.𝓡.env f32-disable-symbol.name) same (f32-disable-met.met w.𝓤 w.𝓛 w.𝓜 w.𝓡 wired);
  f32_reset_callable = λ w wired γ k same. f32-reset.known w γ k (w.𝓡.env f32-reset-symbol.name) same (f32-reset-met.met w.𝓤 w.𝓛 w.𝓜 w.𝓡 wired);
  q15_make_callable = λ w wired γ k same. q15-make.known w γ k (w.𝓡.env q15-make-symbol.name) same (q15-make-met.met w.𝓤 w.𝓛 w.𝓜 w.𝓡 wired);
  q15_plain_callable = λ w wired γ k same. q15-plain.known w γ k (w.𝓡.env q15-plain-symbol.name) same (q15-plain-met.met w.𝓤 w.𝓛 w.𝓜 w.𝓡 wired);
  q15_fast_callable = λ w wired γ k same. q15-fast.known w γ k (w.𝓡.env q15-fast-symbol.name) same (q15-fast-met.met w.𝓤 w.𝓛 w.𝓜 w.𝓡 wired);
  q15_merged_callable = λ w wired γ k same. q15-merged.known w γ k (w.𝓡.env q15-merged-symbol.name) same (q15-merged-met.met w.𝓤 w.𝓛 w.𝓜 w.𝓡 wired);
  q15_summary_callable = λ w wired γ k same. q15-summary.known w γ k (w.𝓡.env q15-summary-symbol.name) same (q15-summary-met.met w.𝓤 w.𝓛 w.𝓜 w.𝓡 wired);
  q15_enable_callable = λ w wired γ k same. q15-enable.known w γ k (w.𝓡.env q15-enable-symbol.name) same (q15-enable-met.met w.𝓤 w.𝓛 w.𝓜 w.𝓡 wired);
  q15_disable_callable = λ w wired γ k same. q15-disable.known w γ k (w.𝓡.env q15-disable-symbol.name) same (q15-disable-met.met w.𝓤 w.𝓛 w.𝓜 w.𝓡 wired);
  q15_reset_callable = λ w wired γ k same. q15-reset.known w γ k (w.𝓡.env q15-reset-symbol.name) same (q15-reset-met.met w.𝓤 w.𝓛 w.𝓜 w.𝓡 wired);
  own_matrix = own_matrix;
  own_summary_lem = own_summary_lem;
  in_f32 = demand F32 shown_f32;
  in_q15 = demand Q15 shown_q15;
}

pub request4 : Request4
request4 = record { in_f32 = summary_claims F32 shown_f32; in_q15 = summary_claims Q15 shown_q15 }
