-- The problem of a kernel's schedules: which times are legal, and what they cost.
use Rattle.std.specs.Prelude.{
  ◌≡◌,
  ℕ,
  zero,
  suc,
  ◌+◌,
  ◌*◌,
  ◌/◌,
  ◌==◌,
  pos,
  ◌+ℤ◌,
  ◌-ℤ◌,
  List,
  [],
  ◌∷◌,
  ◌++◌,
  length,
  slice_index_or,
  ◌<◌,
  Option,
  Some,
  None,
  find,
}
use Rattle.std.specs.Option.{option_map}
use Rattle.std.specs.List.{flat_map}
use Rattle.cycle_find.specs.declared.arcs.Arc.{Arc}
use Rattle.schedule_problem.specs.declared.problem.Term.{Term}
use Rattle.schedule_problem.specs.declared.problem.Problem.{Problem}
use Rattle.stream_graph.specs.declared.node.Node.{Node}
use Rattle.latency_table.specs.declared.table.Table.{Table}
use Rattle.offset_edges.specs.declared.edge.Edge.{Edge}
use Rattle.offset_edges.specs.Edges.{edges_of}
use Rattle.stream_graph.specs.LookUps.{width_at}
use Rattle.offset_edges.specs.Latencies.{ticks_of}

-- the two arcs of an edge: a reader comes after the latency of what it reads, and so many ticks
-- later as it looks ahead; and the words are kept until it has read them
abbrev pub arcs_of : ℕ → (ℕ → ℕ) → Edge → List Arc
arcs_of nodes ticks edge =
    record { from = edge.from; to = edge.to; need = pos (ticks edge.from) +ℤ edge.offset }
    ∷ record { from = edge.to; to = nodes + edge.from; need = pos 0 -ℤ edge.offset }
    ∷ []

abbrev pub arcs_over : ℕ → (ℕ → ℕ) → List Edge → List Arc
arcs_over nodes ticks edges = flat_map (arcs_of nodes ticks) edges

-- the edge that has the arc of a number
abbrev pub edge_under : ℕ → ℕ
edge_under arc = arc / 2

-- the node that reads a node over its first edge
abbrev pub reader_of : List Edge → ℕ → Option ℕ
reader_of edges u = option_map (λ e. e.to) (find (λ e. e.from == u) edges)

-- these are the readers of so many nodes, in node order
pub record AreReaders (nodes : ℕ) (edges : List Edge) (readers : List (Option ℕ)) : Type 0 where
  pub counted : length readers ≡ nodes
  pub each : (u : ℕ) → u < nodes → slice_index_or readers u None ≡ reader_of edges u

-- the term of a node that is read, and what of it is no FIFO
abbrev pub term_of : List Node → ℕ → Option ℕ → List Term
term_of nodes u None = []
term_of nodes u (Some reader) =
    record { from = u; to = length nodes + u; weight = width_at nodes u; mid = reader } ∷ []

abbrev pub base_of : (ℕ → ℕ) → List Node → ℕ → Option ℕ → ℕ
base_of ticks nodes u None = 0
base_of ticks nodes u (Some reader) = width_at nodes u * ticks u

-- those of the nodes below a number, in node order, where each is read by these
abbrev pub terms_below : List Node → (ℕ → Option ℕ) → ℕ → List Term
terms_below nodes readers zero = []
terms_below nodes readers (suc u) = terms_below nodes readers u ++ term_of nodes u (readers u)

abbrev pub base_below : (ℕ → ℕ) → List Node → (ℕ → Option ℕ) → ℕ → ℕ
base_below ticks nodes readers zero = 0
base_below ticks nodes readers (suc u) = base_below ticks nodes readers u + base_of ticks nodes u
    (readers u)

-- the problem for these latencies and edges. Of n nodes, node u has its time at u, and at n + u the
-- time up to which its words are kept
abbrev pub problem_over : (ℕ → ℕ) → List Node → List Edge → Problem
problem_over ticks nodes edges =
    record {
      arcs = record { nodes = 2 * length nodes; list = arcs_over (length nodes) ticks edges };
      terms = terms_below nodes (reader_of edges) (length nodes);
      base = base_below ticks nodes (reader_of edges) (length nodes);
    }

abbrev pub problem_of : Table → List Node → Problem
problem_of table nodes = problem_over (ticks_of table nodes) nodes (edges_of nodes)
