-- What is called with its arguments, against the meaning.
use Rattle.std.specs.Prelude.{
  ◌≡◌,
  ◌==◌,
  ℕ,
  ◌+◌,
  List,
  [],
  ◌∷◌,
  length,
  Option,
  Some,
  None,
  Result,
  Ok,
  Err,
  if◌then◌else◌,
}
use Rattle.maxj_syntax.specs.Cells.{Cell}
use Rattle.maxj_syntax.specs.Tree.{Tree, Trees, Cons}
use Rattle.kernel_meaning.specs.declared.error.EvalError.{EvalError}
use Rattle.kernel_meaning.specs.declared.error.EvalError.TheVariants.{
  NoMemory,
  WrongKind,
  UnknownName,
}
use Rattle.kernel_meaning.specs.declared.value.Value.{Value}
use Rattle.kernel_meaning.specs.declared.state.Binding.{Binding}
use Rattle.kernel_meaning.specs.declared.value.Declared.{Declared}
use Rattle.kernel_meaning.specs.Methods.{Body, body_by}
use Rattle.kernel_meaning.specs.Plans.{number_of_trees}
use Rattle.kernel_plans.specs.Trees.{tree_of, trees_of}
use Rattle.kernel_plans.specs.declared.branch.Branch.{Branch}
use Rattle.kernel_plans.specs.declared.binding.Entered.{Entered}

-- a parameter gets its value, whatever stands behind it; or there is no body, for this reason
abbrev pub IsBound : ℕ → Tree → Value → List Binding → List Binding → Result (Unit {0}) EvalError
    → Type 0
IsBound user parameter value old new (Ok done) =
    (wanted : Option Declared) (trees : Trees) (values : List Value)
    → body_by wanted user (Cons parameter trees) (value ∷ values) (Ok old)
    ≡ body_by wanted user trees values (Ok new)
IsBound user parameter value old new (Err NoMemory) = Unit {0}
IsBound user parameter value old new (Err e) =
    (wanted : Option Declared) (trees : Trees) (values : List Value)
    → body_by wanted user (Cons parameter trees) (value ∷ values) (Ok old) ≡ Err e

-- the branch is that of the constructor which was found, or there is none
abbrev pub IsCtor : List Cell → Option (ℕ × Trees) → Option Branch → Type 0
IsCtor cells found None = found ≡ None
IsCtor cells found (Some b) = found ≡ Some (b.span.from, trees_of cells b.id b.children.now)

-- the body is this one, or there is none for this reason; want of memory says nothing of it
abbrev pub IsBody : List Cell → Result Body EvalError → Result Entered EvalError → Type 0
IsBody cells body (Ok entered) =
    body ≡ Ok (record {
      wanted = entered.wanted;
      variables = entered.variables;
      block = tree_of cells entered.block;
    })
IsBody cells body (Err NoMemory) = Unit {0}
IsBody cells body (Err e) = body ≡ Err e

-- the body of the constructor that was found, with these arguments, the first one among them
abbrev pub constructed : List Value → Option (ℕ × Trees) → Result Body EvalError
constructed args None = Err (WrongKind 0)
constructed args (Some ctor) =
    if number_of_trees ctor.1 == length args + 1 then body_by None ctor.0 ctor.1 args (Ok [])
    else Err (UnknownName ctor.0)
