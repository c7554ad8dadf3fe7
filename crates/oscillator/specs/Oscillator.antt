-- The numerically controlled oscillator. Source: document 01, "`Nco`", "Calls turned back" (causes 1 and 17);
-- kernels/mix.rs for the order of operations. Definitions only.
use Rattle.std.specs.Prelude.{ℕ, ◌+◌, ◌*◌, ◌%◌, ◌^◌, false, [], ◌∷◌, pos, Float}
use Rattle.std.specs.Float.{fin, binary64}
use Rattle.std.specs.Float.Ieee.{div, sub, mul, to_signed}
use Rattle.std.specs.Float.Ieee.Scale.{finite}
use Rattle.answers.specs.Answer.{Said, rule, first_cause, Built, built_by, Changed, changed_by}
use Rattle.numbers.specs.Integers.{mod_z}
use Rattle.floats.specs.Floats.{floor_of, half_even_of, positive}
use Rattle.oscillator.specs.declared.nco.Nco.{Nco}

-- the increment of a number of cycles a sample: their fraction, cycles - floor(cycles), times 2^32, half-even,
-- where 2^32 becomes 0
unfoldable pub increment_of : Float → ℕ
increment_of cycles =
    let turns = mul binary64 (sub binary64 cycles (floor_of cycles)) (fin false 1 (pos 32)) in
    mod_z (to_signed 63 (half_even_of turns)) (2 ^ 32)

-- the causes: 1, the rate; 17, frequency/rate
abbrev pub causes : Float → Float → Said
causes freq rate = first_cause (rule 1 (positive rate) ∷ rule 17 (finite (div binary64 freq rate)) ∷ [])

-- the increment of a frequency at a rate
unfoldable pub increment_for : Float → Float → Built ℕ
increment_for freq rate = built_by (causes freq rate) (increment_of (div binary64 freq rate))

-- a new oscillator begins at phase 0
abbrev pub fresh : ℕ → Nco
fresh inc = record { phase = 0; inc = inc }

unfoldable pub new_of : Float → Float → Built Nco
new_of freq rate = built_by (causes freq rate) (fresh (increment_of (div binary64 freq rate)))

-- another increment keeps the phase
abbrev pub increment_set : Nco → ℕ → Nco
increment_set o inc = record { phase = o.phase; inc = inc }

unfoldable pub set_frequency_of : Nco → Float → Float → Changed Nco
set_frequency_of o freq rate = changed_by (causes freq rate) (increment_set o (increment_of (div binary64 freq rate))) o

abbrev pub phase_set : Nco → ℕ → Nco
phase_set o p = record { phase = p; inc = o.inc }

-- n increments on
abbrev pub advance_of : Nco → ℕ → Nco
advance_of o n = phase_set o ((o.phase + n * o.inc) % 2 ^ 32)
