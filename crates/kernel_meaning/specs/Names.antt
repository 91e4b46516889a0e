-- Variables.
use Rattle.std.specs.Prelude.{
  ◌||◌,
  ℕ,
  List,
  [],
  ◌∷◌,
  ◌++◌,
  Bool,
  true,
  false,
  Option,
  Some,
  None,
  codes,
  if◌then◌else◌,
  is_some,
}
use Rattle.std.specs.Str.{bytes_eq}
use Rattle.maxj_syntax.specs.Tree.{Tree, Node, Nil, Cons}
use Rattle.maxj_syntax.specs.declared.tree.NodeKind.TheVariants as N
use Rattle.kernel_meaning.specs.declared.value.Value.{Value}
use Rattle.kernel_meaning.specs.declared.state.State.{State}
use Rattle.kernel_meaning.specs.declared.state.Binding.{Binding}
use Rattle.kernel_meaning.specs.declared.value.Declared.{Declared}
use Rattle.kernel_meaning.specs.declared.value.Value.TheVariants as V

-- the binding of a name, the first in the list
abbrev pub bound_in : List ℕ → List Binding → Option Binding
bound_in name [] = None
bound_in name (b ∷ bs) = if bytes_eq b.name name then Some b else bound_in name bs

abbrev pub or_else : Option Binding → Option Binding → Option Binding
or_else (Some b) other = Some b
or_else None other = other

-- the variable of a name: of the method, or a field
abbrev pub variable : List ℕ → State → Option Binding
variable name state = or_else (bound_in name state.variables) (bound_in name state.fields)

-- a new variable, not set yet
abbrev pub declared : List ℕ → Declared → List Binding → List Binding
declared name of bs = record { name = name; of = of; value = V.Nothing } ∷ bs

-- the first of this name has the value
abbrev pub assigned : List ℕ → Value → List Binding → List Binding
assigned name value [] = []
assigned name value (b ∷ bs) = if bytes_eq b.name name
    then record { name = b.name; of = b.of; value = value } ∷ bs else b ∷ assigned name value bs

abbrev pub assigned_in : Bool → List ℕ → Value → State → State
assigned_in true name value state = record state { variables = assigned name value state.variables }
assigned_in false name value state = record state { fields = assigned name value state.fields }

-- the variable of this name has the value
abbrev pub with_variable : List ℕ → Value → State → State
with_variable name value state = assigned_in (is_some (bound_in name state.variables)) name value
    state

-- words that are no variables
abbrev pub is_value_word : List ℕ → Bool
is_value_word word = bytes_eq word (codes "true")
    || (bytes_eq word (codes "false") || bytes_eq word (codes "this"))

abbrev pub dotted : Option (List ℕ) → List ℕ → Option (List ℕ)
dotted None word = None
dotted (Some path) word = Some (path ++ codes "." ++ word)

-- names with dots between them, of which the first is no variable, as they are written
abbrev pub path_of : State → Tree → Option (List ℕ)
path_of state (Node N.Name word span trees) = if is_value_word word || is_some (variable word state)
    then None else Some word
path_of state (Node N.Dot word span (Cons base Nil)) = dotted (path_of state base) word
path_of state (Node _ word span trees) = None

-- the first name of a path, and its place
abbrev pub root_word : Tree → List ℕ
root_word (Node N.Dot word span (Cons base Nil)) = root_word base
root_word (Node _ word span trees) = word

abbrev pub root_place : Tree → ℕ
root_place (Node N.Dot word span (Cons base Nil)) = root_place base
root_place (Node _ word span trees) = span.from

-- the names with which the library's paths begin
abbrev pub is_root : List ℕ → Bool
is_root word =
    bytes_eq word (codes "io") || (bytes_eq word (codes "stream")
    || (bytes_eq word (codes "constant") || (bytes_eq word (codes "control")
    || (bytes_eq word (codes "Reductions")
    || (bytes_eq word (codes "optimization")
    || (bytes_eq word (codes "SignMode") || bytes_eq word (codes "RoundingMode")))))))

-- `this`
abbrev pub is_this : Tree → Bool
is_this (Node N.Name word span trees) = bytes_eq word (codes "this")
is_this (Node _ word span trees) = false

-- `this`, or a path: it isn't evaluated
abbrev pub is_mute : State → Tree → Bool
is_mute state tree = is_this tree || is_some (path_of state tree)

-- where a mute name or path is told to have no meaning
abbrev pub place_of : Tree → ℕ
place_of (Node kind word span trees) = span.from

abbrev pub mute_place : Tree → ℕ
mute_place tree = if is_this tree || is_root (root_word tree) then place_of tree
    else root_place tree
