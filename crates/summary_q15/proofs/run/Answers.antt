use Prim.Native.Nat.{ℕ, ◌*◌, ◌^◌, ◌<◌}
use mathlib.Core.Path.{◌≡◌, sym, ap, ◌∙◌}
use mathlib.Core.Bool.{true, false}
use mathlib.Core.List.{List}
use native.Mathlib.Omega.{arith}
use lib.IntN.{ℤ, pos, negsuc}
use lib.Signed.{lt_z}
use lib.ListN.{length, get_or}
use mir.Syntax.{w16}
use mir.Val.{SFits, to_z, of_z}
use mir.Facts.{to_z-of_z}
use Rattle.decoder_record_q15.specs.Fit.{fit_q15}
use Rattle.decoder_record_q15.specs.Records.{pll_of_q15}
use Rattle.decoder.specs.Machine.{Stepped, step_of}
use Rattle.decoder_q15.specs.Q15.{q15, step_if_fit}
use Rattle.decoder_q15.proofs.Kept.{fit_next}
use Rattle.summary_counts.specs.Counts.{ending_of}
use Rattle.summary_record.specs.Record.{Summary, larger_of}
use Rattle.summary_record.proofs.Fits.{fitted}
use Rattle.summary_call.proofs.Noting.{noting_start, noting_on, noting_full, noting_end, has_place}
use Rattle.summary_record.specs.Q15.{unsigned_q15, larger_q15, summary_of_q15}
use Rattle.summary_record.proofs.Negative.{unsigned_q15_lem}
use Rattle.summary_q15.proofs.Difference.{difference_above}
use Rattle.decoder_record.specs.State.{Pll}
use Rattle.summary_q15.proofs.run.Goals.{After-is_full, then-is_full, else-is_full}
use Rattle.summary_q15.proofs.run.Goals as goal

-- what the machine holds of a sample
abbrev kept : ℤ → ℤ
kept z = to_z w16 (of_z w16 z)

-- sample i of a block: its step, of a fit record, and the larger magnitude
record Sampled (t mpx pilot : List ℤ) (st next : Pll ℤ) (i : ℕ) (difference magnitude larger : ℤ) : Type 0 where
  ex : kept (get_or mpx i (pos 0)) ≡ get_or mpx i (pos 0)
  ep : kept (get_or pilot i (pos 0)) ≡ get_or pilot i (pos 0)
  e : record { sum = kept (get_or mpx i (pos 0)); difference = kept difference; pll = next } ≡ step_of q15 t st (kept (get_or mpx i (pos 0))) (kept (get_or pilot i (pos 0)))
  fit : fit_q15 next ≡ true
  larger_is : kept larger ≡ larger_of q15 magnitude (kept difference)

sampled : (t mpx pilot : List ℤ) (st next : Pll ℤ) (i : ℕ) (difference magnitude larger : ℤ)
    → SFits w16 (get_or mpx i (pos 0)) → SFits w16 (get_or pilot i (pos 0)) → SFits w16 difference → SFits w16 larger
    → fit_q15 st ≡ true
    → record { sum = kept (get_or mpx i (pos 0)); difference = difference; pll = next } ≡ step_if_fit t st (kept (get_or mpx i (pos 0))) (kept (get_or pilot i (pos 0)))
    → larger ≡ larger_q15 magnitude (kept difference)
    → Sampled t mpx pilot st next i difference magnitude larger
sampled t mpx pilot st next i difference magnitude larger fx fp fd fl f s g =
    let x = kept (get_or mpx i (pos 0)) in
    let p = kept (get_or pilot i (pos 0)) in
    let ex : x ≡ get_or mpx i (pos 0) = to_z-of_z fx in
    let ep : p ≡ get_or pilot i (pos 0) = to_z-of_z fp in
    let e : record { sum = x; difference = kept difference; pll = next } ≡ step_of q15 t st x p = rw (to_z-of_z fd) (rw f at s) in
    -- the difference is above -32768
    let above : lt_z (kept difference) (negsuc 32766) ≡ false =
    rw (ap (λ (z : Stepped ℤ). z.difference) e) (difference_above t st x p (rw ex fx)) in
    record {
      ex = ex;
      ep = ep;
      e = e;
      fit = rw (ap (λ (z : Stepped ℤ). z.pll) e) (fit_next t st x p (rw ep fp) f);
      larger_is = to_z-of_z fl ∙ g ∙ rw above;
    }

pub loop-i-init : goal.loop-i-init
loop-i-init c =
    let a = c.args in
    let x = c.requires.lengths in
    let n = c.requires.columns in
    let held : SFits w16 a.s.magnitude = record { sfits = c.struct_told-1.given.1.0.1 } in
    rw (to_z-of_z held)
    (noting_start q15 unsigned_q15 unsigned_q15_lem a.table.now a.mpx.now a.pilot.now (pll_of_q15 a.d) (summary_of_q15 a.s) x.1 x.2 n.0 n.1 n.2 n.3 c.requires.fit (fitted q15 unsigned_q15 (summary_of_q15 a.s) c.requires.summary))

-- sample i of the loop, when it is tested whether its period is full
here : (c : After-is_full) → let l = c.loop-i in Sampled c.args.table.now c.args.mpx.now c.args.pilot.now (pll_of_q15 l.st) (pll_of_q15 c.step_checked-o.result.next) l.i c.step_checked-o.result.difference (to_z w16 l.magnitude-bits) c.larger-magnitude.result
here c =
    let a = c.args in
    let l = c.loop-i in
    sampled a.table.now a.mpx.now a.pilot.now (pll_of_q15 l.st) (pll_of_q15 c.step_checked-o.result.next) l.i c.step_checked-o.result.difference (to_z w16 l.magnitude-bits) c.larger-magnitude.result
    (record { sfits = c.x-1.given }) (record { sfits = c.p-1.given }) (record { sfits = c.struct_told-in-loop-i-1.given.1.0.1 }) (record { sfits = c.larger-magnitude.type_inv })
    l.invariant.fit_state c.step_checked-o.ensures c.larger-magnitude.ensures

-- a full period has a place
room : (c : After-is_full) → c.is_full.result ≡ true → c.loop-i.k < ending_of c.args.s.counts (length c.args.mpx.now)
room c full =
    let a = c.args in
    let m : Summary ℤ = record { counts = a.s.counts; magnitude = kept a.s.magnitude } in
    let w = here c in
    has_place q15 unsigned_q15 unsigned_q15_lem a.table.now a.mpx.now a.pilot.now (pll_of_q15 a.d) m c.loop-i.invariant c.loop-i-test.true w.ex w.ep w.e w.fit c.counted-counts.ensures.exact w.larger_is (sym c.is_full.ensures ∙ full)

-- a slice takes fewer than 2^63 bytes
small : (c : After-is_full) → c.is_full.result ≡ true → c.loop-i.k * 4 < 2 ^ 63
small c full =
    let of-stereos : length c.args.stereos.now * 4 < 2 ^ 63 = c.well_formed.1.1.1.1.1.1.1.0.1 in
    omega (arith, room c full, c.requires.columns.0, of-stereos)

pub offset_bounds-stereos-k : goal.offset_bounds-stereos-k
offset_bounds-stereos-k c = omega (arith, small (goal.at.offset_bounds-stereos-k c).After-is_full c.if-is_full.true)

pub bounds-stereos-k : goal.bounds-stereos-k
bounds-stereos-k c = omega (arith, room (goal.at.bounds-stereos-k c).After-is_full c.if-is_full.true, c.loop-i.invariant.placed.stereo.size)

pub offset_bounds-monos-k : goal.offset_bounds-monos-k
offset_bounds-monos-k c = omega (arith, small (goal.at.offset_bounds-monos-k c).After-is_full c.if-is_full.true)

pub bounds-monos-k : goal.bounds-monos-k
bounds-monos-k c = omega (arith, room (goal.at.bounds-monos-k c).After-is_full c.if-is_full.true, c.loop-i.invariant.placed.mono.size)

pub offset_bounds-changes-k : goal.offset_bounds-changes-k
offset_bounds-changes-k c = omega (arith, small (goal.at.offset_bounds-changes-k c).After-is_full c.if-is_full.true)

pub bounds-changes-k : goal.bounds-changes-k
bounds-changes-k c = omega (arith, room (goal.at.bounds-changes-k c).After-is_full c.if-is_full.true, c.loop-i.invariant.placed.changes.size)

pub offset_bounds-magnitudes-k : goal.offset_bounds-magnitudes-k
offset_bounds-magnitudes-k c = omega (arith, small (goal.at.offset_bounds-magnitudes-k c).After-is_full c.if-is_full.true)

pub bounds-magnitudes-k : goal.bounds-magnitudes-k
bounds-magnitudes-k c = omega (arith, room (goal.at.bounds-magnitudes-k c).After-is_full c.if-is_full.true, c.loop-i.invariant.placed.magnitude.size)

pub overflow_add-k : goal.overflow_add-k
overflow_add-k c = omega (arith, small (goal.at.overflow_add-k c).After-is_full c.if-is_full.true)

pub loop-i-preserved : goal.loop-i-preserved
loop-i-preserved c =
    let a = c.args in
    let l = c.loop-i in
    let m : Summary ℤ = record { counts = a.s.counts; magnitude = kept a.s.magnitude } in
    let w = here (goal.at.loop-i-preserved c).After-is_full in
    elim c.if-is_full.branch [
      | then-is_full v ↦
          rw (v.stereos-is, v.monos-is, v.changes-is, v.magnitudes-is, v.counts-is, v.magnitude-is, v.k-is, v.empty-counts.ensures)
          (noting_full q15 unsigned_q15 unsigned_q15_lem a.table.now a.mpx.now a.pilot.now (pll_of_q15 a.d) m l.invariant c.loop-i-test.true w.ex w.ep w.e w.fit c.counted-counts.ensures.exact w.larger_is (sym c.is_full.ensures ∙ v.if-is_full.true))
      | else-is_full v ↦
          rw (v.stereos-is, v.monos-is, v.changes-is, v.magnitudes-is, v.counts-is, v.magnitude-is, v.k-is)
          (noting_on q15 unsigned_q15 unsigned_q15_lem a.table.now a.mpx.now a.pilot.now (pll_of_q15 a.d) m l.invariant c.loop-i-test.true w.ex w.ep w.e w.fit c.counted-counts.ensures.exact w.larger_is (sym c.is_full.ensures ∙ v.if-is_full.false))
    ]

pub returns : goal.returns
returns c =
    let held : SFits w16 c.args.s.magnitude = record { sfits = c.struct_told-1.given.1.0.1 } in
    rw (to_z-of_z held) at (noting_end q15 unsigned_q15 unsigned_q15_lem _ _ _ _ _ c.loop-i.invariant c.loop-i-test.false)
