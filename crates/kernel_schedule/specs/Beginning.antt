-- When a schedule begins.
use Rattle.std.specs.Prelude.{◌≡◌, ◌⊎◌, ℕ, ◌<◌, pos, List, length}
use Rattle.cycle_find.specs.Constraints.{Numbers}
use Rattle.offset_edges.specs.declared.edge.Edge.{Edge}
use Rattle.offset_edges.specs.Walks.{start_of, end_of}

-- an edge leads from the node or to it
abbrev pub HasEdge : List Edge → ℕ → Type 0
HasEdge edges v = (j : ℕ) × (j < length edges) × ((start_of edges j ≡ v) ⊎ (end_of edges j ≡ v))

-- nodes without edges have time 0, and where a node has an edge, one that has an edge has time 0
pub record BeginsAtZero (edges : List Edge) (nodes : ℕ) (s : Numbers) : Type 0 where
  pub apart : (v : ℕ) → v < nodes → (HasEdge edges v → ⊥) → s v ≡ pos 0
  pub least : (v : ℕ) → HasEdge edges v → (w : ℕ) × HasEdge edges w × (s w ≡ pos 0)
