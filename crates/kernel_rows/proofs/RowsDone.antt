-- A value that was given is what a row does.
use Rattle.std.proofs.Common.{◌≡◌, List, ap, sym, subst, ◌∙◌, Ok, Err}
use Rattle.std.specs.Prelude.{ℕ, Result, OnErr}
use Rattle.kernel_meaning.specs.declared.value.Value.{Value}
use Rattle.kernel_meaning.specs.declared.state.State.{State}
use Rattle.kernel_meaning.specs.declared.row.Row.{Row}
use Rattle.kernel_meaning.specs.declared.error.EvalError.{EvalError}
use Rattle.kernel_meaning.specs.Answer.{Outcome}
use Rattle.kernel_meaning.specs.Rows
use Rattle.kernel_rows.specs.declared.done.Done.{Done}
use Rattle.kernel_rows.specs.Given.{IsGiven, IsDone, done_of}

given_done : (new : State) (outcome : Outcome) (given : Result Value EvalError)
    → IsGiven new outcome given → IsDone new outcome (done_of given)
given_done new outcome (Ok value) g = g
given_done new outcome (Err e) g = g

-- the row is this one, which does what was given
pub row_done : (row same : Row) (at : ℕ) (values : List Value) (old new : State)
    (outcome : Outcome) (given : Result Value EvalError) (result : Result Done EvalError)
    → row ≡ same → Rows.row_of same at values old ≡ outcome → result ≡ done_of given
    → IsGiven new outcome given → IsDone new (Rows.row_of row at values old) result
row_done row same at values old new outcome given result r o d g =
    subst (λ (x : Result Done EvalError). IsDone new (Rows.row_of row at values old) x) (sym d)
    (subst (λ (x : Outcome). IsDone new x (done_of given))
    (sym (ap (λ (x : Row). Rows.row_of x at values old) r ∙ o))
    (given_done new outcome given g))

err_of : (P : Type 0) (given : Result Value EvalError) → OnErr given P → OnErr (done_of given) P
err_of P (Ok value) h = h
err_of P (Err e) h = h

-- what holds after a refusal
pub row_err : (P : Type 0) (given : Result Value EvalError) (result : Result Done EvalError)
    → result ≡ done_of given → OnErr given P → OnErr result P
row_err P given result d h =
    subst (λ (x : Result Done EvalError). OnErr x P) (sym d) (err_of P given h)
