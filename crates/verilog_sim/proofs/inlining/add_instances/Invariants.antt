use Rattle.std.proofs.Common.{◌≡◌, ◌++◌, map, take}
use Rattle.verilog_sim.specs.Relocation.{relocated_instance}
use Rattle.verilog_sim.proofs.inlining.add_instances.Given as goal

abbrev pub invariant-loop-instance : goal.invariant-loop-instance
invariant-loop-instance l = l.instances.items ≡ l.fn.instances.items ++ map (relocated_instance l.first_net) (take l.instance-index l.more)
