use Rattle.kernel_wiring.proofs.Stepping.{AreWired}
use Rattle.kernel_wiring.proofs.wiring.add_nodes.Given as goal

-- the nodes so far have their wires
abbrev pub invariant-loop-node : goal.invariant-loop-node
invariant-loop-node l = record {
  wired : AreWired l.kernel.nodes l.layout l.late l.timing l.fn.netlist l.netlist l.fn.words l.words l.node-index;
}
