-- Where a run of a kernel first isn't guarded.
use Rattle.std.specs.Prelude.{◌≡◌, ◌⊎◌, ℕ, ◌<◌, pos, List, length, Option, Some, None}
use Rattle.stream_graph.specs.declared.node.Node.{Node}
use Rattle.stream_equations.specs.Equations.{Values}
use Rattle.stream_graph.specs.LookUps.{control_of}
use Rattle.kernel_family.specs.declared.place.Place.{Place}

-- by tick, then node
abbrev pub IsBefore : Place → Place → Type 0
IsBefore one other =
    (one.tick < other.tick) ⊎ ((one.tick ≡ other.tick) × (one.node < other.node))

-- the node has a control or a store there, and it is undefined in that one of so many ticks
pub record IsUnguarded (nodes : List Node) (ticks : ℕ) (val : Values) (place : Place) : Type 0 where
  pub node : place.node < length nodes
  pub tick : place.tick < ticks
  pub control : ℕ
  pub is : control_of nodes place.node ≡ Some control
  pub undefined : val control (pos place.tick) ≡ None

-- the first place at which one is
pub record IsFirstUnguarded (nodes : List Node) (ticks : ℕ) (val : Values) (place : Place) : Type 0
  where
    pub here : IsUnguarded nodes ticks val place
    pub before :
        (other : Place) → IsBefore other place → IsUnguarded nodes ticks val other → ⊥

-- no control and no store is undefined in any tick, or this is the first place at which one is
abbrev pub IsGuardedBut : List Node → ℕ → Values → Option Place → Type 0
IsGuardedBut nodes ticks val None = (place : Place) → IsUnguarded nodes ticks val place → ⊥
IsGuardedBut nodes ticks val (Some place) = IsFirstUnguarded nodes ticks val place
