-- What a builder has received where a building run ends.
use Rattle.std.specs.Prelude.{◌≡◌, Result, Err}
use Rattle.kernel_calls.specs.declared.call.Call.{Call}
use Rattle.kernel_calls.specs.Laws.{Received}
use Rattle.kernel_meaning.specs.declared.error.EvalError.{EvalError}
use Rattle.kernel_meaning.specs.declared.error.EvalError.TheVariants.{NoMemory}
use Rattle.kernel_meaning.specs.declared.plan.Plan.{Plan}
use Rattle.kernel_meaning.specs.Answer.{Answer, calls_of, end_of, plan_at_end}

-- the run ends so, and the builder has received just its calls, in their order; want of memory says
-- nothing
abbrev pub Builds : {S : Type 0} → (S → Call → S → Type 0) → S → Answer
    → Result (Unit {0}) EvalError → S
    → Type 0
Builds receives old run (Err NoMemory) new = Unit {0}
Builds receives old run result new =
    (end_of run ≡ result) × Received receives old (calls_of run) new

-- the run ends with this plan, or is refused so; want of memory says nothing
abbrev pub Plans : Answer → Result Plan EvalError → Type 0
Plans run (Err NoMemory) = Unit {0}
Plans run result = plan_at_end run ≡ result

-- this is the answer; want of memory says nothing
abbrev pub IsAnswer : Result Plan EvalError → Result Plan EvalError → Type 0
IsAnswer expected (Err NoMemory) = Unit {0}
IsAnswer expected result = expected ≡ result
