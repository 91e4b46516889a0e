use Rattle.stream_graph.specs.Nodes.{AreNodes}
use Rattle.stream_graph.proofs.Taking.{first_calls}
use Rattle.stream_graph.proofs.graph.Graph.nodes.Given as goal

abbrev pub invariant-loop-row : goal.invariant-loop-row
invariant-loop-row l = AreNodes (first_calls l.self.bytes.items.items l.self.operands.items.items
    l.self.rows.items.items l.row-index) l.nodes.items
