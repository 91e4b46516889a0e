-- What a building run keeps from row to row.
use Rattle.std.specs.Prelude.{◌≡◌, ◌≤◌, ℕ, List, [], ◌∷◌, length, Result, Ok, Err}
use Rattle.kernel_meaning.specs.declared.value.Value.{Value}
use Rattle.kernel_meaning.specs.declared.state.State.{State}
use Rattle.kernel_meaning.specs.declared.state.Binding.{Binding}
use Rattle.kernel_meaning.specs.declared.row.Row.{Row}
use Rattle.kernel_meaning.specs.declared.row.Row.TheVariants as R
use Rattle.kernel_meaning.specs.declared.error.EvalError.{EvalError}
use Rattle.kernel_meaning.specs.Answer.{Outcome}
use Rattle.kernel_meaning.specs.LibraryRows.{bits_of}
use Rattle.kernel_meaning.specs.Outcomes.{wrong}
use Rattle.kernel_meaning.specs.Ways.{combined}
use Rattle.kernel_rows.specs.declared.done.Done.{Done}
use Rattle.kernel_rows.specs.Fit.{IsFit, AreFit}

-- a value that is known before is one that a run has
abbrev pub IsFitRow : Row → Type 0
IsFitRow (R.Gives value) = IsFit value
IsFitRow _ = Unit {0}

abbrev pub AreBoundFit : List Binding → Type 0
AreBoundFit [] = Unit {0}
AreBoundFit (b ∷ bs) = IsFit b.value × AreBoundFit bs

-- arrays of at most 65,536 elements
abbrev pub AreArrays : List (List Value) → Type 0
AreArrays [] = Unit {0}
AreArrays (values ∷ arrays) = (length values ≤ 65536) × AreFit values × AreArrays arrays

-- what holds of each state of a run
pub record IsKept (state : State) : Type 0 where
  pub variables : AreBoundFit state.variables
  pub fields : AreBoundFit state.fields
  pub arrays : AreArrays state.arrays
  pub digits : (chain : ℕ) → bits_of state.digits chain ≤ 128

-- a row keeps it, changes no variable, and leaves no more steps than before
pub record Keeps (old new : State) : Type 0 where
  pub kept : IsKept new
  pub variables : new.variables ≡ old.variables
  pub fields : new.fields ≡ old.fields
  pub left : new.left ≤ old.left

-- what a row gives is fit, and what it leaves is kept
abbrev pub RowKeeps : State → State → Result Done EvalError → Type 0
RowKeeps old new (Ok done) = IsFit done.value × Keeps old new
RowKeeps old new (Err e) = Unit {0}

-- the same of a value that is given
abbrev pub ValueKeeps : State → State → Result Value EvalError → Type 0
ValueKeeps old new (Ok value) = IsFit value × Keeps old new
ValueKeeps old new (Err e) = Unit {0}

-- the sign of a compound assignment between two values
abbrev pub combined_pair : List ℕ → ℕ → List Value → State → Outcome
combined_pair sign at (old ∷ value ∷ []) state = combined sign at old value state
combined_pair sign at _ state = wrong at
