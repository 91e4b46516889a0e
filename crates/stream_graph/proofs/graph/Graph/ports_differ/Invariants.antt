use Rattle.stream_graph.proofs.Meeting.{Differ}
use Rattle.stream_graph.proofs.graph.Graph.ports_differ.Given as goal

abbrev pub invariant-loop-row : goal.invariant-loop-row
invariant-loop-row l = Differ l.self.bytes.items.items l.self.operands.items.items l.self.rows.items.items l.names
    l.row-index
