use Rattle.std.proofs.Common.{◌≡◌, ◌++◌, map, take}
use Rattle.verilog_sim.specs.Relocation.{relocated_update}
use Rattle.verilog_sim.proofs.inlining.add_updates.Given as goal

abbrev pub invariant-loop-update : goal.invariant-loop-update
invariant-loop-update l = l.updates.items ≡ l.fn.updates.items ++ map (relocated_update l.first.net l.first.mem) (take l.update-index l.more)
