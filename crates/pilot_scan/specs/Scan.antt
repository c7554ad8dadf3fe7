-- What the scan of a pilot tells, and its count in the request's words; proofs/Claims.antt proves them. Source:
-- document 02, request 3. Definitions only.
use Rattle.std.specs.Prelude.{ℕ, suc, true, false, cond, List, [], ◌∷◌, ◌++◌, reverse, ◌≡◌, length, Float}
use Rattle.std.specs.Float.Ieee.Scale.{finite}
use Rattle.decoder_parts.specs.Rules.{all_finite}
use Rattle.pilot_scan.specs.declared.Scanned.{Scanned}

-- how many samples are read, from the first on, by a reader that leaves when it has read one that is not finite
abbrev pub read_of : List Float → ℕ
read_of [] = 0
read_of (p ∷ ps) = suc (cond (finite p) (read_of ps) 0)

-- the scan reads from the last sample to the first
unfoldable pub scan_of : List Float → Scanned
scan_of pilot = record { finite = all_finite pilot; read = read_of (reverse pilot) }

-- ---- the count, in the request's words
-- a pilot's last sample that is not finite: what stands before it, the sample, what stands after it
pub record Last (pilot : List Float) : Type 0 where
  pub before : List Float
  pub sample : Float
  pub after : List Float
  pub place : pilot ≡ before ++ (sample ∷ after)
  pub not_finite : finite sample ≡ false
  pub rest_finite : all_finite after ≡ true

pub record Claims : Type 0 where
  -- from the last non-finite one to the end
  pub from_last : (pilot : List Float) (l : Last pilot) → (scan_of pilot).read ≡ length (l.sample ∷ l.after)
  -- or all where there is none
  pub all : (pilot : List Float) → all_finite pilot ≡ true → (scan_of pilot).read ≡ length pilot
  -- every pilot is one or the other
  pub last : (pilot : List Float) → all_finite pilot ≡ false → Last pilot
  -- an empty pilot is finite, and 0 are read
  pub empty : scan_of [] ≡ record { finite = true; read = 0 }
