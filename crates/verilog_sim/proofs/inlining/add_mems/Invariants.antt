use Rattle.std.proofs.Common.{◌≡◌, ◌++◌, map, take}
use Rattle.verilog_sim.specs.Relocation.{bare_mem}
use Rattle.verilog_sim.proofs.inlining.add_mems.Given as goal

abbrev pub invariant-loop-mem : goal.invariant-loop-mem
invariant-loop-mem l = l.mems.items ≡ l.fn.mems.items ++ map bare_mem (take l.mem-index l.more)
