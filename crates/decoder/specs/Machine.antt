-- Document 01's plain machine, over the format: "The plain machine, one sample", steps 1 to 7, and a whole
-- block. It knows nothing of the program. The rules of steps 4, 6 and 7 are in
-- crates/decoder_parts/specs/Rules.antt, with the parts of the code that follow them. Definitions only.
use Rattle.std.specs.Prelude.{ℕ, zero, suc, Bool, ◌&&◌, cond, List, [], ◌∷◌, length, get_or}
use Rattle.lookup.specs.Lookup.{sine_at}
use Rattle.answers.specs.Answer.{Said, accepted, rule, table_rule, input_rule, output_rule, first_cause, kept}
use Rattle.answers.specs.Samples.{samples}
use Rattle.decoder_record.specs.State.{Pll, moved_to}
use Rattle.decoder_parts.specs.Rules.{decide_by, limited_by, phase_after}

-- what the steps say of one format's numbers; specs/F32.antt and crates/decoder_q15/specs/Q15.antt have the two
pub record Arithmetic (A : Type 0) : Type 0 where
  -- 1: the cosine from the table at a phase
  pub lookup : List A → ℕ → A
  -- 2: whether a pilot sample takes part, the product of two numbers, and 0
  pub usable : A → Bool
  pub times : A → A → A
  pub nought : A
  -- 3: the next level, from beta, the level and q
  pub level_next : A → A → A → A
  -- 4 and 6: x is at or above y; x is below y
  pub reaches : A → A → Bool
  pub under : A → A → Bool
  -- 5: x times s2
  pub demodulate : A → A → A
  -- 6: integ plus ki times e, from the three of them, and the other sign
  pub accumulate : A → A → A → A
  pub minus : A → A
  -- 7: kp times e plus integ, and the correction
  pub frequency : A → A → A → A
  pub correction : A → ℕ
  -- whether a block takes the record (cause 0)
  pub fit : Pll A → Bool

-- what a sample leaves: its two outputs and the state
pub record Stepped (A : Type 0) : Type 0 where
  pub sum : A
  pub difference : A
  pub pll : Pll A

-- what a block answers and leaves: its two outputs and the state
pub record Blocked (A : Type 0) : Type 0 where
  pub said : Said
  pub sum : List A
  pub difference : List A
  pub pll : Pll A

module _ {A : Type 0} (F : Arithmetic A) where
  -- 4: at or above on: stereo; else below off: mono; else kept
  abbrev pub decide : A → A → A → Bool → Bool
  decide = decide_by F.reaches F.under

  -- 6: above imax it becomes imax, after that below -imax it becomes -imax
  abbrev pub limited : A → A → A
  limited = limited_by F.under F.minus

  -- 2: the error; a pilot sample that takes no part gives 0
  abbrev pub error_of : List A → Pll A → A → A
  error_of t d p = cond (F.usable p) (F.times p (F.lookup t d.moving.phase)) F.nought

  -- 6: the next integrator, from the error e
  abbrev pub integ_of : Pll A → A → A
  integ_of d e = limited d.gains.imax (F.accumulate d.moving.integ d.gains.ki e)

  -- 7: f
  abbrev pub frequency_of : Pll A → A → A
  frequency_of d e = F.frequency d.gains.kp e (integ_of d e)

  -- the last two steps, from the error e; the level and the decision are those of steps 3 and 4
  unfoldable pub advanced_by : Pll A → A → A → Bool → Pll A
  advanced_by d e level stereo =
      let g = d.gains in
      let m = d.moving in
      let phase = phase_after m.phase g.step0 (F.correction (frequency_of d e)) in
      moved_to d (record { phase = phase; integ = integ_of d e; level = level; stereo = stereo })

  -- one sample: mpx x, pilot p
  unfoldable pub step_of : List A → Pll A → A → A → Stepped A
  step_of t d x p =
      let g = d.gains in
      let m = d.moving in
      -- 1; c is in the error
      let s = F.lookup t (sine_at 1 m.phase) in
      let s2 = F.lookup t (sine_at 2 m.phase) in
      -- 2: a pilot sample that takes no part skips 3 and 4
      let e = error_of t d p in
      let q = F.times p s in
      -- 3
      let level = cond (F.usable p) (F.level_next g.beta m.level q) m.level in
      -- 4
      let stereo = cond (F.usable p) (decide level g.on g.off m.stereo) m.stereo in
      -- 5
      let difference = cond (stereo && d.enabled) (F.demodulate x s2) F.nought in
      record { sum = x; difference = difference; pll = advanced_by d e level stereo }

  -- ---- a block's samples in order: the state before sample i, and what sample i leaves
  unfoldable pub state_at : List A → List A → List A → Pll A → ℕ → Pll A
  state_at t mpx pilot d zero = d
  state_at t mpx pilot d (suc i) =
      (step_of t (state_at t mpx pilot d i) (get_or mpx i F.nought) (get_or pilot i F.nought)).pll

  abbrev pub step_at : List A → List A → List A → Pll A → ℕ → Stepped A
  step_at t mpx pilot d i = step_of t (state_at t mpx pilot d i) (get_or mpx i F.nought) (get_or pilot i F.nought)

  unfoldable pub run_of : Pll A → List A → List A → List A → Blocked A
  run_of d t mpx pilot =
      let n = length mpx in
      record {
        said = accepted;
        sum = samples n (λ i. (step_at t mpx pilot d i).sum);
        difference = samples n (λ i. (step_at t mpx pilot d i).difference);
        pll = state_at t mpx pilot d n;
      }

-- the causes 9, 10, 11 in order, by the lengths
abbrev pub length_causes : ℕ → ℕ → ℕ → ℕ → ℕ → List Said
length_causes table mpx pilot sum difference =
    table_rule table ∷ input_rule mpx pilot ∷ output_rule mpx sum ∷ output_rule mpx difference ∷ []

-- a block: cause 0, then those, and outputs and state stay; otherwise its samples in order
module _ {A : Type 0} (F : Arithmetic A) where
  abbrev pub block_says : Pll A → ℕ → ℕ → ℕ → ℕ → ℕ → Said
  block_says d table mpx pilot sum difference =
      first_cause (rule 0 (F.fit d) ∷ length_causes table mpx pilot sum difference)

  unfoldable pub block_of : Pll A → List A → List A → List A → List A → List A → Blocked A
  block_of d t mpx pilot sum difference =
      let said = block_says d (length t) (length mpx) (length pilot) (length sum) (length difference) in
      kept said (run_of F d t mpx pilot) (record { said = said; sum = sum; difference = difference; pll = d })
