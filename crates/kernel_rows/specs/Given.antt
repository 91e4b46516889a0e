-- What the answer of a row says of the outcome that the meaning gives.
use Rattle.std.specs.Prelude.{◌≡◌, [], Result, Ok, Err}
use Rattle.kernel_meaning.specs.declared.error.EvalError.{EvalError}
use Rattle.kernel_meaning.specs.declared.error.EvalError.TheVariants.{NoMemory}
use Rattle.kernel_meaning.specs.declared.state.State.{State}
use Rattle.kernel_meaning.specs.declared.value.Value.{Value}
use Rattle.kernel_meaning.specs.Answer.{Outcome, Fails, Does}
use Rattle.kernel_rows.specs.declared.done.Done.{Done}

-- the outcome is this refusal; want of memory says nothing of it
abbrev pub IsRefused : Outcome → EvalError → Type 0
IsRefused outcome NoMemory = Unit {0}
IsRefused outcome e = outcome ≡ Fails e

-- the outcome makes nothing, has this value and leaves the state, or is this refusal
abbrev pub IsGiven : State → Outcome → Result Value EvalError → Type 0
IsGiven state outcome (Ok value) = outcome ≡ Does [] value state
IsGiven state outcome (Err e) = IsRefused outcome e

-- the outcome makes these calls, has this value and this state, or is this refusal
abbrev pub IsDone : State → Outcome → Result Done EvalError → Type 0
IsDone state outcome (Ok done) = outcome ≡ Does done.calls done.value state
IsDone state outcome (Err e) = IsRefused outcome e

-- a value that was given makes nothing; a refusal stays
abbrev pub done_of : Result Value EvalError → Result Done EvalError
done_of (Ok value) = Ok (record { calls = []; value = value })
done_of (Err e) = Err e
