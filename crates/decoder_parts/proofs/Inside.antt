-- A number that is neither small nor beyond the limit is its own flushed and limited one. Assumes nothing.
use Rattle.std.proofs.Common.{◌≡◌, Bool, true, false, cond, ◌&&◌, ◌||◌, pos, sym, refl, ◌∙◌, true≢false}
use lib.Ieee.{Float, fin, lt, neg}
use Rattle.numbers.specs.Flush.{flush_of, tiny}
use Rattle.numbers.proofs.Flush.{two_tests}
use Rattle.decoder_parts.specs.Rules.{limited_f32}

-- ---- two tests of which one is failed, and two that are both failed
not_both : {A : Type 0} (a b : Bool) (x y : A) → a && b ≡ false → cond a (cond b y x) x ≡ x
not_both true true x y h = absurd (true≢false h)
not_both true false x y h = refl
not_both false b x y h = refl

neither : (a b : Bool) → a || b ≡ false → (a ≡ false) × (b ≡ false)
neither true b h = absurd (true≢false h)
neither false b h = (refl, h)

pub inside : (imax x : Float) → (lt x tiny && lt (neg tiny) x) || (lt imax x || lt x (neg imax)) ≡ false → x ≡ limited_f32 imax (flush_of x)
inside imax x h =
    let n = neither (lt x tiny && lt (neg tiny) x) (lt imax x || lt x (neg imax)) h in
    let m = neither (lt imax x) (lt x (neg imax)) n.1 in
    rw (sym (two_tests x) ∙ not_both (lt x tiny) (lt (neg tiny) x) x (fin false 0 (pos 0)) n.0, m.0, m.1)
