use Rattle.std.proofs.Common.{◌≡◌, replicate, []}
use Rattle.verilog_sim.proofs.order.unread.Given as goal

abbrev pub invariant-loop-node : goal.invariant-loop-node
invariant-loop-node l = l.graph.items ≡ replicate l._node []
