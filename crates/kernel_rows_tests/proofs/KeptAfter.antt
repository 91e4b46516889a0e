-- A row keeps what holds of a state, whether it is refused or not.
use Rattle.std.proofs.Common.{◌≡◌, Ok, Err, sym, subst}
use Rattle.std.specs.Prelude.{Result, OnErr}
use Rattle.kernel_meaning.specs.declared.error.EvalError.{EvalError}
use Rattle.kernel_meaning.specs.declared.state.State.{State}
use Rattle.kernel_rows.specs.declared.done.Done.{Done}
use Rattle.kernel_rows.specs.Kept.{IsKept, RowKeeps}

pub kept-after : (old new : State) (done : Result Done EvalError) → RowKeeps old new done
    → OnErr done (new ≡ old) → IsKept old → IsKept new
kept-after old new (Ok done) keeps same h = keeps.1.kept
kept-after old new (Err e) keeps same h = subst IsKept (sym same) h
