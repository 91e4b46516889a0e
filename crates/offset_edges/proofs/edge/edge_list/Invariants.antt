use Rattle.std.proofs.Common.{◌≡◌}
use Rattle.offset_edges.specs.Edges.{edges_below}
use Rattle.offset_edges.proofs.edge.edge_list.Given as goal

abbrev pub invariant-loop-number : goal.invariant-loop-number
invariant-loop-number l = l.edges.items ≡ edges_below l.kernel.nodes l.number
