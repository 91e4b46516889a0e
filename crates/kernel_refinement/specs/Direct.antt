-- Edges without latency and delay: over them a node reads a word in the edge of the clock in which
-- its producer has it.
use Rattle.std.specs.Prelude.{◌≡◌, ℕ, pos, List, [], ◌∷◌}
use Rattle.cycle_find.specs.Constraints.{Numbers}
use Rattle.offset_edges.specs.declared.edge.Edge.{Edge}
use Rattle.offset_edges.specs.Edges.{edge_at}
use Rattle.offset_edges.specs.Schedules.{delay_of}
use Rattle.offset_edges.specs.Walks.{IsWalk}

-- an edge whose producer has no latency, and which has no delay at these times
pub record IsDirect (ticks : ℕ → ℕ) (times : Numbers) (edge : Edge) : Type 0 where
  pub latency : ticks edge.from ≡ 0
  pub delay : delay_of ticks times edge ≡ pos 0

-- each edge of a walk is one
abbrev pub AreDirect : (ℕ → ℕ) → Numbers → List Edge → List ℕ → Type 0
AreDirect ticks times edges [] = Unit {0}
AreDirect ticks times edges (j ∷ js) =
    IsDirect ticks times (edge_at edges j) × AreDirect ticks times edges js

-- no closed walk has such edges alone
abbrev pub NoDirectLoop : (ℕ → ℕ) → Numbers → List Edge → Type 0
NoDirectLoop ticks times edges =
    (v j : ℕ) (js : List ℕ)
    → IsWalk edges v (j ∷ js) v
    → AreDirect ticks times edges (j ∷ js)
    → ⊥
