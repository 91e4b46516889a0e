use Rattle.std.proofs.Common.{◌≡◌, ◌++◌, map, take}
use Rattle.verilog_sim.specs.Relocation.{bare_net}
use Rattle.verilog_sim.proofs.inlining.add_nets.Given as goal

abbrev pub invariant-loop-net : goal.invariant-loop-net
invariant-loop-net l = l.nets.items ≡ l.fn.nets.items ++ map bare_net (take l.net-index l.more)
