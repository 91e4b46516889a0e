use Rattle.verilog_sim.specs.Drivers.{AreGathered}
use Rattle.verilog_sim.proofs.order.gather.Given as goal

abbrev pub invariant-loop-node : goal.invariant-loop-node
invariant-loop-node l = AreGathered l.assigns l.by_net l.nodes l.order.items l.node-index
