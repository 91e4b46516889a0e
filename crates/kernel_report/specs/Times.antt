-- The times of a kernel's problem, from those of its nodes.
use Rattle.std.specs.Prelude.{
  ℕ,
  ◌-◌,
  ◌==◌,
  nat_lt,
  if◌then◌else◌,
  ℤ,
  ◌-ℤ◌,
  List,
  [],
  ◌∷◌,
  length,
  Option,
  Some,
  None,
  unwrap_or,
}
use Rattle.cycle_find.specs.Constraints.{Numbers}
use Rattle.stream_graph.specs.declared.node.Node.{Node}
use Rattle.offset_edges.specs.declared.edge.Edge.{Edge}
use Rattle.offset_edges.specs.Edges.{edges_of}
use Rattle.offset_edges.specs.Schedules.{greater}

-- the last time at which one of these edges reads a word of node u; none where no edge leads from it
abbrev pub last_read : Numbers → List Edge → ℕ → Option ℤ
last_read s [] u = None
last_read s (edge ∷ edges) u =
    if edge.from == u then Some (greater (s edge.to -ℤ edge.offset) (last_read s edges u))
    else last_read s edges u

-- the time up to which a word of node u is kept: that of its last reader, and the node's own where
-- nothing reads it
abbrev pub kept_until : Numbers → List Edge → ℕ → ℤ
kept_until s edges u = unwrap_or (last_read s edges u) (s u)

-- of n nodes, node u has its time at u, and at n + u the time up to which its words are kept
abbrev pub whole_times : List Node → Numbers → Numbers
whole_times nodes s v =
    if nat_lt v (length nodes) then s v
    else kept_until s (edges_of nodes) (v - length nodes)
