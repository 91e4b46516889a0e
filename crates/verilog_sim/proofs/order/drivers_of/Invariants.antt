use Rattle.verilog_sim.specs.Drivers.{AreDrivers}
use Rattle.verilog_sim.proofs.order.drivers_of.Given as goal

abbrev pub invariant-loop-k : goal.invariant-loop-k
invariant-loop-k l = AreDrivers l.module l.graph.items l.by_net.items l.k
