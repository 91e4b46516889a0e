-- Walks over edges, and which kernels are causal.
use Rattle.std.specs.Prelude.{
  ◌≡◌,
  ℕ,
  ◌+◌,
  ◌<◌,
  ◌≤◌,
  ℤ,
  pos,
  ◌+ℤ◌,
  ◌-ℤ◌,
  ◌*ℤ◌,
  ◌<ℤ◌,
  ◌≤ℤ◌,
  List,
  [],
  ◌∷◌,
  map,
  length,
  slice_index,
}
use Rattle.std.specs.Int.{int_max}
use Rattle.cycle_find.specs.declared.arcs.Arc.{Arc}
use Rattle.offset_edges.specs.declared.edge.Edge.{Edge}
use Rattle.offset_edges.specs.declared.walk.ClosedWalk.{ClosedWalk}
use Rattle.offset_edges.specs.Edges.{edge_at}

abbrev pub start_of : List Edge → ℕ → ℕ
start_of edges j = (edge_at edges j).from

abbrev pub end_of : List Edge → ℕ → ℕ
end_of edges j = (edge_at edges j).to

-- a walk is a list of edges, by their numbers, each of which starts where the one before ends
abbrev pub IsWalk : List Edge → ℕ → List ℕ → ℕ → Type 0
IsWalk edges a [] b = a ≡ b
IsWalk edges a (j ∷ js) b = (j < length edges) × (start_of edges j ≡ a) × IsWalk edges (end_of edges
    j) js b

abbrev pub IsClosed : List Edge → List ℕ → Type 0
IsClosed edges js = (v : ℕ) × IsWalk edges v js v

-- how many ticks ahead a walk looks: the sum of the offsets of its edges
abbrev pub offsets_of : List Edge → List ℕ → ℤ
offsets_of edges [] = pos 0
offsets_of edges (j ∷ js) = (edge_at edges j).offset +ℤ offsets_of edges js

-- the sum of the latencies of the nodes at which its edges start
abbrev pub latencies_of : (ℕ → ℕ) → List Edge → List ℕ → ℕ
latencies_of ticks edges [] = 0
latencies_of ticks edges (j ∷ js) = ticks (start_of edges j) + latencies_of ticks edges js

-- every closed walk looks back at least one tick
abbrev pub IsCausal : List Edge → Type 0
IsCausal edges = (v j : ℕ) (js : List ℕ) → IsWalk edges v (j ∷ js) v
    → offsets_of edges (j ∷ js) <ℤ pos 0

-- a closed walk is covered where it looks back at least one tick, and as many as the latencies of its
-- nodes sum to
abbrev pub IsCovered : (ℕ → ℕ) → List Edge → List ℕ → Type 0
IsCovered ticks edges js =
    int_max (pos 1) (pos (latencies_of ticks edges js)) ≤ℤ (pos 0 -ℤ offsets_of edges js)

-- every closed walk is covered
abbrev pub AreCovered : (ℕ → ℕ) → List Edge → Type 0
AreCovered ticks edges = (v j : ℕ) (js : List ℕ) → IsWalk edges v (j ∷ js) v
    → IsCovered ticks edges (j ∷ js)

-- ---- the walk of a refusal

-- the walk has the nodes at which these edges start, and the sums of their latencies and offsets
pub record IsSummed (ticks : ℕ → ℕ) (edges : List Edge) (js : List ℕ) (walk : ClosedWalk) : Type 0
  where
    pub nodes : walk.nodes ≡ map (start_of edges) js
    pub latency : walk.latency ≡ latencies_of ticks edges js
    pub offset : walk.offset ≡ offsets_of edges js

-- it is a closed walk over some edges, from its least node on
pub record IsShown (ticks : ℕ → ℕ) (edges : List Edge) (walk : ClosedWalk) : Type 0 where
  pub round : List ℕ
  pub some : 0 < length round
  pub closed : IsClosed edges round
  pub summed : IsSummed ticks edges round walk
  pub least_first : (i : ℕ) → i < length walk.nodes → slice_index walk.nodes 0 ≤ slice_index
      walk.nodes i

-- ---- how it is found

-- the numbers are those of edges
abbrev pub AreNumbers : List Edge → List ℕ → Type 0
AreNumbers edges js = (i : ℕ) → i < length js → slice_index js i < length edges

-- a closed walk that looks back no tick
pub record IsRound (nodes : ℕ) (edges : List Edge) (js : List ℕ) : Type 0 where
  pub some : 0 < length js
  pub few : length js ≤ nodes
  pub closed : IsClosed edges js
  pub ahead : pos 0 ≤ℤ offsets_of edges js

-- for so many nodes: the needs of a closed walk sum to its offsets times the number of nodes, and 1
-- an edge
abbrev pub constraint_of : ℕ → Edge → Arc
constraint_of nodes edge =
    record { from = edge.from; to = edge.to; need = edge.offset *ℤ pos nodes +ℤ pos 1 }
