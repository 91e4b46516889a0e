use Rattle.std.proofs.Common.{◌≡◌, ◌++◌, map, drop}
use Rattle.kernel_layout.specs.Reads.{direct_of}
use Rattle.kernel_layout.proofs.order.direct_graph.Given as goal

-- the nodes so far and those that are left are all
abbrev pub invariant-loop-node : goal.invariant-loop-node
invariant-loop-node l = record {
  told : l.graph.items ++ map direct_of (drop l.node-index l.reads) ≡ map direct_of l.reads;
}
