-- Document 01's cases P1 to P12 as one table, P10 and P11 again through the merged block. Sources: document 01,
-- "Cases marked P"; document 02, request 1. Definitions only.
use Rattle.std.specs.Prelude.{ℕ, ◌*◌, Bool, true, false, List, [], ◌∷◌, ◌≡◌, replicate, ℤ, pos, negsuc, Float}
use Rattle.std.specs.Float.{nan, inf, fin}
use Rattle.answers.specs.Answer.{accepted, entries}
use Rattle.lookup.specs.Lookup.{cos_q15}
use Rattle.phase.specs.Correction.{correction_of}
use Rattle.matrix.specs.Matrix.{left_q15, right_q15}
use Rattle.encoder.specs.Multiplex.{multiplex_of}
use Rattle.decoder_record.specs.State.{Pll}
use Rattle.decoder_q15.specs.Q15.{q15}
use Rattle.demand.specs.Cores.{core_q15}
use Rattle.calls.specs.Calls.{Brought, Call, block, merged, Left, leaving, machine}

-- a row: what is asked, and what document 01 says
pub data Case : Type 0 where
  -- the first two entries of a table and a phase: the Q15 lookup
  lookup : ℤ → ℤ → ℕ → ℤ → Case
  -- f: the phase correction
  correction : Float → ℕ → Case
  -- sum and difference: left and right
  matrix : ℤ → ℤ → ℤ → ℤ → Case
  -- a Q15 decoder and a list of calls: what each call leaves
  calls : Pll ℤ → List (Call ℤ) → List (Left ℤ (Pll ℤ)) → Case
  -- an encoder with a table of this value, main, pilot, phase, left and right: the multiplex
  multiplex : Float → Float → Float → ℕ → Float → Float → Float → Case

abbrev pub Says : Case → Type 0
Says (lookup a b p want) = cos_q15 (a ∷ b ∷ replicate 4095 (pos 0)) p ≡ want
Says (correction f want) = correction_of f ≡ want
Says (matrix s d left right) = (left_q15 s d ≡ left) × (right_q15 s d ≡ right)
Says (calls d cs want) = machine core_q15 d cs ≡ want
Says (multiplex v main pilot phase left right want) =
    multiplex_of (replicate entries v) main pilot phase left right ≡ want

abbrev pub Table : List Case → Type 0
Table [] = Unit {0}
Table (c ∷ cs) = Says c × Table cs

-- the phase whose fraction between the first two entries is f of 2^15
abbrev pub fraction : ℕ → ℕ
fraction f = f * 32

-- P3's decoder, in a state
abbrev pub decoder : ℕ → ℤ → ℤ → Bool → Pll ℤ
decoder phase integ level stereo = record {
  gains = record {
    kp = pos 131072;
    ki = pos 1;
    imax = pos 40000;
    beta = pos 65536;
    on = pos 2147483648;
    off = pos 1073741824;
    step0 = 100;
  };
  moving = record { phase = phase; integ = integ; level = level; stereo = stereo };
  enabled = true;
}

-- a block of one sample, with this value throughout the table, this mpx and this pilot; the outputs held 0
abbrev pub brought : ℤ → ℤ → ℤ → Brought ℤ
brought value mpx pilot = record {
  table = replicate entries value;
  mpx = mpx ∷ [];
  pilot = pilot ∷ [];
  first = pos 0 ∷ [];
  second = pos 0 ∷ [];
}

-- P3's block, with this pilot
abbrev pub one : ℤ → Call ℤ
one pilot = block (brought (pos 16384) (pos 3) pilot)

-- such a block accepted: its two outputs and the decoder after it
abbrev pub gave : ℤ → ℤ → Pll ℤ → Left ℤ (Pll ℤ)
gave first second d = leaving accepted (first ∷ []) (second ∷ []) d

abbrev pub fresh : Pll ℤ
fresh = decoder 0 (pos 0) (pos 0) false

abbrev pub cases : List Case
cases =
    -- P1
    lookup (pos 0) (pos 1) (fraction 16383) (pos 0)
    ∷ lookup (pos 0) (pos 1) (fraction 16384) (pos 1)
    -- P2
    ∷ lookup (pos 0) (negsuc 0) (fraction 16384) (pos 0)
    ∷ lookup (pos 0) (negsuc 0) (fraction 16385) (negsuc 0)
    -- P3
    ∷ calls fresh (one (pos 2) ∷ []) (gave (pos 3) (pos 2) (decoder 101 (pos 32768) (pos 2147483648) true) ∷ [])
    -- P4, again
    ∷ calls fresh (one (pos 2) ∷ one (pos 2) ∷ [])
    (gave (pos 3) (pos 2) (decoder 101 (pos 32768) (pos 2147483648) true)
    ∷ gave (pos 3) (pos 2) (decoder 202 (pos 40000) (pos 4294901760) true) ∷ [])
    -- P5
    ∷ calls fresh (one (negsuc 1) ∷ [])
    (gave (pos 3) (pos 0) (decoder 99 (negsuc 32767) (negsuc 2147483647) false) ∷ [])
    -- P6, P7, P8
    ∷ correction (fin false 1 (negsuc 32)) 1
    ∷ correction (fin true 1 (negsuc 32)) 0
    ∷ correction (fin true 1 (negsuc 31)) 4294967295
    -- P9
    ∷ correction (inf false) 4294967295
    ∷ correction (inf true) 0
    ∷ correction nan 0
    -- P10, P11
    ∷ matrix (pos 20000) (pos 10000) (pos 32767) (pos 0)
    ∷ matrix (negsuc 32767) (pos 20000) (pos 7232) (negsuc 32767)
    -- P10 and P11 merged: mpx times the table's value is P10's and P11's difference, and the pilot lights the lamp
    ∷ calls fresh (merged (brought (pos 16384) (pos 20000) (pos 2)) ∷ [])
    (gave (pos 32767) (pos 0) (decoder 101 (pos 32768) (pos 2147483648) true) ∷ [])
    ∷ calls fresh (merged (brought (negsuc 19999) (negsuc 32767) (negsuc 1)) ∷ [])
    (gave (pos 7232) (negsuc 32767) (decoder 101 (pos 40000) (pos 2621440000) true) ∷ [])
    -- P12
    ∷ multiplex (fin false 1 (pos 0)) (fin false 1 (pos 0)) (fin false 1 (negsuc 2)) 0
    (fin false 1 (negsuc 0)) (fin false 1 (negsuc 1)) (fin false 5 (negsuc 2))
    ∷ []
