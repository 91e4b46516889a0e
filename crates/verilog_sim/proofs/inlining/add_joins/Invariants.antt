use Rattle.std.proofs.Common.{◌≡◌, ◌++◌, take}
use Rattle.verilog_sim.specs.Relocation.{joins_of}
use Rattle.verilog_sim.proofs.inlining.add_joins.Given as goal

abbrev pub invariant-loop-k : goal.invariant-loop-k
invariant-loop-k l = l.assigns.items ≡ l.fn.assigns.items ++ joins_of l.first_net (take l.k l.ports) (take l.k l.nets)
