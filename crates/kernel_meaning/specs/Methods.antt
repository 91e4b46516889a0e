-- Methods of the own class, and what their parameters stand for.
use Rattle.std.specs.Prelude.{
  ℕ,
  ◌-◌,
  List,
  [],
  ◌∷◌,
  Option,
  Some,
  None,
  Result,
  Ok,
  Err,
  codes,
  if◌then◌else◌,
  is_some,
}
use Rattle.std.specs.Str.{bytes_eq}
use Rattle.maxj_syntax.specs.Tree.{Tree, Node, Trees, Nil, Cons}
use Rattle.maxj_syntax.specs.declared.tree.NodeKind.TheVariants as N
use Rattle.kernel_meaning.specs.declared.error.EvalError.{EvalError}
use Rattle.kernel_meaning.specs.declared.value.Value.{Value}
use Rattle.kernel_meaning.specs.declared.state.Binding.{Binding}
use Rattle.kernel_meaning.specs.declared.value.Declared.{Declared}
use Rattle.kernel_meaning.specs.declared.error.EvalError.TheVariants as E
use Rattle.kernel_meaning.specs.Names.{bound_in}
use Rattle.kernel_meaning.specs.Plans.{number_of_trees}
use Rattle.kernel_meaning.specs.Values.{has_kind, declared_by}

-- the first method of a name among the members: its result, and its parameters with the block
-- behind them
abbrev pub method_of : List ℕ → Trees → Option (Tree × Trees)
method_of name Nil = None
method_of name (Cons (Node N.Method word span (Cons result rest)) members) =
    if bytes_eq word name then Some (result, rest) else method_of name members
method_of name (Cons _ members) = method_of name members

-- how many parameters the method has
abbrev pub params_of : Trees → List ℕ → Option ℕ
params_of members name =
    elim (method_of name members) [
      | None ↦ None
      | Some method ↦ Some (number_of_trees method.1 - 1)
    ]

-- the result of a method: none of `void`, or a type
abbrev pub some_result : Result Declared ℕ → Result (Option Declared) ℕ
some_result (Err at) = Err at
some_result (Ok of) = Ok (Some of)

abbrev pub result_by : Tree → Result (Option Declared) ℕ
result_by (Node N.Plain word span trees) =
    if bytes_eq word (codes "void") then Ok None
    else some_result (declared_by (Node N.Plain word span trees))
result_by tree = some_result (declared_by tree)

-- what a body needs: the type of its result, its parameters with their values, and its statements
pub record Body : Type 0 where
  pub wanted : Option Declared
  pub variables : List Binding
  pub block : Tree

-- a parameter of this type has its value, for the production at a place
abbrev pub bound_by : ℕ → ℕ → List ℕ → Value → List Binding → Result Declared ℕ
    → Result (List Binding) EvalError
bound_by user at name value variables (Err place) = Err (E.UnknownName place)
bound_by user at name value variables (Ok of) =
    if is_some (bound_in name variables) then Err (E.NameTwice at) else
    (if has_kind of value then Ok (record { name = name; of = of; value = value } ∷ variables)
    else Err (E.WrongKind user))

-- the parameters have these values, and behind them stands the block
abbrev pub body_by : Option Declared → ℕ → Trees → List Value → Result (List Binding) EvalError
    → Result Body EvalError
body_by wanted user trees values (Err e) = Err e
body_by wanted user (Cons block Nil) [] (Ok variables) =
    Ok (record { wanted = wanted; variables = variables; block = block })
body_by wanted user (Cons (Node kind name span (Cons type Nil)) trees) (value ∷ values)
    (Ok variables) =
    body_by wanted user trees values
    (bound_by user span.from name value variables (declared_by type))
body_by wanted user _ _ (Ok variables) = Err (E.UnknownName user)

-- a method with these arguments
abbrev pub entered_by : ℕ → Trees → List Value → Result (Option Declared) ℕ → Result Body EvalError
entered_by user rest values (Err at) = Err (E.UnknownName at)
entered_by user rest values (Ok wanted) = body_by wanted user rest values (Ok [])

abbrev pub entered : ℕ → List Value → Option (Tree × Trees) → Result Body EvalError
entered user values None = Err (E.UnknownName user)
entered user values (Some method) = entered_by user method.1 values (result_by method.0)
