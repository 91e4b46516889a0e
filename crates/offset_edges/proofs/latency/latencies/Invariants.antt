use Rattle.offset_edges.specs.Latencies.{AreLatencies}
use Rattle.offset_edges.proofs.latency.latencies.Given as goal

abbrev pub invariant-loop-number : goal.invariant-loop-number
invariant-loop-number l = AreLatencies l.table l.kernel.nodes l.number l.ticks.items
