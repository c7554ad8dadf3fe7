-- What a call answers, in document 01's numbers. Source: document 01, "Calls turned back". Definitions only.
use Rattle.std.specs.Prelude.{ℕ, ◌+◌, Bool, true, false, cond, List, [], ◌∷◌, eqb, Result, Ok, Err}
use Rattle.answers.specs.declared.answer.Refusal.{Refusal}
use Rattle.answers.specs.declared.answer.Refusal.TheVariants as cause
use Rattle.answers.specs.declared.answer.Code.{Code}

-- accepted, or the cause's number, for 9 to 11 with the length wanted and the one found
pub data Said : Type 0 where
  accepted : Said
  turned : ℕ → Said
  lengths : ℕ → ℕ → ℕ → Said

abbrev pub accepts : Said → Bool
accepts accepted = true
accepts (turned n) = false
accepts (lengths n wanted found) = false

-- ---- causes
-- the cause n is in force where the test fails
abbrev pub rule : ℕ → Bool → Said
rule n good = cond good accepted (turned n)

-- .. where a length is not the one wanted
abbrev pub length_rule : ℕ → ℕ → ℕ → Said
length_rule n wanted found = cond (eqb found wanted) accepted (lengths n wanted found)

-- the entries of a table
abbrev pub entries : ℕ
entries = 4097

-- the table's length (9), a further input's (10), an output's (11)
abbrev pub table_rule : ℕ → Said
table_rule found = length_rule 9 entries found

abbrev pub input_rule : ℕ → ℕ → Said
input_rule first found = length_rule 10 first found

abbrev pub output_rule : ℕ → ℕ → Said
output_rule first found = length_rule 11 first found

-- the first of two causes, and of any number: the first cause in force wins
abbrev pub or_else : Said → Said → Said
or_else accepted next = next
or_else (turned n) next = turned n
or_else (lengths n wanted found) next = lengths n wanted found

abbrev pub first_cause : List Said → Said
first_cause [] = accepted
first_cause (cause ∷ causes) = or_else cause (first_cause causes)

-- ---- what the calls give
-- a construction: what was made, or the number of the cause
pub data Built (A : Type 0) : Type 0 where
  made : A → Built A
  refused : ℕ → Built A

abbrev pub built_by : {A : Type 0} → Said → A → Built A
built_by accepted a = made a
built_by (turned n) a = refused n
built_by (lengths n wanted found) a = refused n

abbrev pub map_built : {A B : Type 0} → (A → B) → Built A → Built B
map_built f (made a) = made (f a)
map_built f (refused n) = refused n

-- a set call: the record with the new value, or the number of the cause and the record as it was
pub data Changed (A : Type 0) : Type 0 where
  changed : A → Changed A
  unchanged : ℕ → A → Changed A

abbrev pub changed_by : {A : Type 0} → Said → A → A → Changed A
changed_by accepted new old = changed new
changed_by (turned n) new old = unchanged n old
changed_by (lengths n wanted found) new old = unchanged n old

-- a block: the new outputs and state, or those that were there
abbrev pub kept : {A : Type 0} → Said → A → A → A
kept s new old = cond (accepts s) new old

-- ---- the program's answers in these terms
-- a refusal's number in document 01
abbrev pub number_of : Refusal → ℕ
number_of cause.Unfit = 0
number_of cause.Rate = 1
number_of cause.PilotFrequency = 2
number_of cause.NaturalFrequency = 3
number_of cause.PilotLevel = 4
number_of cause.LockCoefficient = 5
number_of cause.Narrow = 6
number_of cause.Wide = 7
number_of cause.ZeroGain = 8
number_of (cause.Table found) = 9
number_of (cause.Input first found) = 10
number_of (cause.Output first found) = 11
number_of cause.EncoderPilot = 12
number_of cause.MainGain = 13
number_of cause.PilotAmplitude = 14
number_of cause.EncoderRate = 15
number_of cause.RdsLevel = 16
number_of cause.Cycles = 17
number_of cause.OutsideQ14 = 18
number_of cause.WordThree = 19
number_of cause.Summary = 20
number_of cause.Number = 21
number_of cause.Allowance = 22

abbrev pub says_refusal : Refusal → Said
says_refusal (cause.Table found) = lengths 9 entries found
says_refusal (cause.Input first found) = lengths 10 first found
says_refusal (cause.Output first found) = lengths 11 first found
says_refusal refusal = turned (number_of refusal)

abbrev pub says : Result Unit Refusal → Said
says (Ok done) = accepted
says (Err refusal) = says_refusal refusal

-- a construction's answer
abbrev pub says_made : {A : Type 0} → Result A Refusal → Built A
says_made (Ok a) = made a
says_made (Err refusal) = refused (number_of refusal)

-- a set call's answer, and the record after it
abbrev pub says_changed : {A : Type 0} → Result Unit Refusal → A → Changed A
says_changed (Ok done) now = changed now
says_changed (Err refusal) now = unchanged (number_of refusal) now

-- an answer in three numbers: 0, or 100 and the cause's number; then the two lengths, 0 where there are none
abbrev pub code_of : Said → Code
code_of accepted = record { code = 0; expected = 0; got = 0 }
code_of (turned n) = record { code = 100 + n; expected = 0; got = 0 }
code_of (lengths n wanted found) = record { code = 100 + n; expected = wanted; got = found }
