-- What crosses to C in every crate of the C boundary: switches; and a construction and a set call, as 0 or the
-- cause's number as a block's answer has it, and the value. Definitions only.
use Rattle.std.specs.Prelude.{ℕ, Bool, cond, not, eqb}
use Rattle.answers.specs.Answer.{turned, code_of, Built, made, refused, Changed, changed, unchanged}

-- ---- switches: on at any number but 0, and on is given back as 1
abbrev pub on_at : ℕ → Bool
on_at x = not (eqb x 0)

abbrev pub switch_of : Bool → ℕ
switch_of b = cond b 1 0

-- ---- constructions and set calls
pub record Coded (A : Type 0) : Type 0 where
  pub code : ℕ
  pub value : A

-- where nothing was made, `none` stands for it
abbrev pub coded_new : {A : Type 0} → A → Built A → Coded A
coded_new none (made a) = record { code = 0; value = a }
coded_new none (refused n) = record { code = (code_of (turned n)).code; value = none }

abbrev pub coded_set : {A : Type 0} → Changed A → Coded A
coded_set (changed a) = record { code = 0; value = a }
coded_set (unchanged n a) = record { code = (code_of (turned n)).code; value = a }
