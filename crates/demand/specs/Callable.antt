-- A function that may be called with any arguments: nothing is asked of the caller, and it learns `Learnt`. It
-- is the kit's own statement of what a caller has of a function whose theorem it cites (`Known`), at the claim
-- that is always true: the call is safe, ends, and leaves what `Learnt` says of the arguments, the result and
-- the parameters at exit. Definitions only.
use Rattle.std.specs.Prelude.{ℕ, List, ◌≡◌}
use mir.Syntax.{Callee}
use prog.Routine.{Env}
use prog.Wired.{Code, Wired}
use borrow.Fn.Kind.{ParamKind, ResultKind}
use borrow.Fn.Kinds.{Out}
use borrow.Fn.World.{World}
use borrow.Fn.Run.{Over}
use borrow.Fn.Plain.{Known}

-- in every model whose environment runs the function's own code (`Wired`; the kit's prog.Linked shows such
-- environments), under whatever name an environment has the routine that the function's own name stands for there
abbrev pub Callable : (n : ℕ) (ps : List (ParamKind n)) (r : ResultKind n) → Code → Callee → Out n ps r → Type 2
Callable n ps r code name Learnt =
    (w : World) → Wired w.𝓡.env code → (γ : Env) (k : Callee) → γ k ≡ w.𝓡.env name
    → Known w.𝓛
    (Over w.𝓛 w.𝓜 w.𝓡 γ)
    n ps r (λ κs a. Unit {0}) Learnt k
