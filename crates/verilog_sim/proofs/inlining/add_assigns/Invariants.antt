use Rattle.std.proofs.Common.{◌≡◌, ◌++◌, map, take}
use Rattle.verilog_sim.specs.Relocation.{relocated_assign}
use Rattle.verilog_sim.proofs.inlining.add_assigns.Given as goal

abbrev pub invariant-loop-assign : goal.invariant-loop-assign
invariant-loop-assign l = l.assigns.items ≡ l.fn.assigns.items ++ map (relocated_assign l.first.net l.first.mem) (take l.assign-index l.more)
