-- The arguments of a kernel that is added, against those of the meaning.
use Rattle.std.specs.Prelude.{◌≡◌, ℕ, List, Option, Some, None, Result, Ok, Err}
use Rattle.kernel_meaning.specs.declared.plan.Arg.{Arg}
use Rattle.kernel_meaning.specs.declared.plan.Arg.TheVariants as A
use Rattle.kernel_meaning.specs.declared.value.Value.{Value}
use Rattle.kernel_meaning.specs.declared.value.Value.TheVariants as V
use Rattle.kernel_meaning.specs.declared.error.EvalError.{EvalError}
use Rattle.kernel_meaning.specs.declared.error.EvalError.TheVariants.{NoMemory, WrongKind}

-- a number, a boolean or a type is an argument
abbrev pub arg_of : Value → Option Arg
arg_of (V.Int n) = Some (A.Int n)
arg_of (V.Flag b) = Some (A.Flag b)
arg_of (V.«Type» t) = Some (A.Stream t)
arg_of _ = None

-- the arguments are these, or a value is none; want of memory says nothing of it
abbrev pub AreArgs : ℕ → Option (List Arg) → Result (List Arg) EvalError → Type 0
AreArgs at args (Ok found) = args ≡ Some found
AreArgs at args (Err NoMemory) = Unit {0}
AreArgs at args (Err (WrongKind place)) = (place ≡ at) × (args ≡ None)
AreArgs at args (Err _) = ⊥
