-- What the code that makes nodes does for one call.
use Rattle.std.specs.Prelude.{◌≡◌, ◌<◌, ◌^◌, ℕ, Bool, true, false, List, [], ◌∷◌, ◌++◌, Option, is_some}
use Rattle.fix_arith.specs.Types.{width_of, HasWidth}
use Rattle.stream_graph.specs.declared.row.Row.{Row}
use Rattle.stream_graph.specs.declared.row.Row.TheVariants as R
use Rattle.stream_graph.specs.declared.node.Node.{Node}
use Rattle.kernel_calls.specs.declared.call.Call.{Call}
use Rattle.kernel_calls.specs.Calls.{count_of}
use Rattle.kernel_calls.specs.Laws.{IsLawful}
use Rattle.stream_graph.specs.Nodes.{one_or_none, AreNodes}

-- the row's call makes a node and changes no other one
abbrev pub is_plain : Row → Bool
is_plain (R.Connect feed value) = false
is_plain (R.ChainDigit chain d) = false
is_plain _ = true

-- the bits of a constant fit its type
abbrev pub FitsType : Row → Type 0
FitsType (R.Constant bits t) = HasWidth t × (bits < 2 ^ width_of t)
FitsType _ = Unit {0}

-- a node was given a name, and maybe a control behind its operands
pub record IsPort (old : Node) (name : List ℕ) (control : Option ℕ) (new : Node) : Type 0 where
  pub kind : new.view.kind ≡ old.view.kind
  pub t : new.view.t ≡ old.view.t
  pub controlled : old.view.controlled ≡ false → new.view.controlled ≡ is_some control
  pub operands : new.operands ≡ old.operands ++ one_or_none control
  pub named : new.name ≡ name
  pub digits : new.digits ≡ old.digits

-- each of the calls so far was lawful after those before it
abbrev pub WereLawful : List Call → Type 0
WereLawful [] = Unit {0}
WereLawful (call ∷ older) = IsLawful older call × WereLawful older

-- these are the nodes of calls after which this one is lawful
pub record MayAdd (nodes : List Node) (call : Call) : Type 0 where
  pub so_far : List Call
  pub were : WereLawful so_far
  pub lawful : IsLawful so_far call
  pub few : count_of so_far < 2 ^ 32
  pub nodes_are : AreNodes so_far nodes

-- from the nodes of calls these are those once this lawful call is made too
abbrev pub Adds : List Node → Call → List Node → Type 0
Adds old call new = (so_far : List Call) → WereLawful so_far → IsLawful so_far call → AreNodes so_far old →
    AreNodes (call ∷ so_far) new
