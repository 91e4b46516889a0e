use Rattle.std.proofs.Common.{◌≡◌, ◌++◌, take}
use Rattle.std.specs.List.{flat_map}
use Rattle.offset_edges.specs.Edges.{edge_of}
use Rattle.offset_edges.proofs.edge.push_edges.Given as goal

abbrev pub invariant-loop-operand : goal.invariant-loop-operand
invariant-loop-operand l =
    l.edges.items ≡ l.initial.edges.items ++ flat_map (edge_of l.kernel.nodes l.number) (take
    l.operand-index l.operand-items)
