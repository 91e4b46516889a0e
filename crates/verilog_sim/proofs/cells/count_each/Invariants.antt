use Rattle.std.proofs.Common.{◌≡◌, ◌-◌, ◌^◌, [], min, map, take}
use Rattle.verilog_sim.specs.Start.{cells_after}
use Rattle.verilog_sim.proofs.cells.count_each.Given as goal

abbrev pub invariant-loop-module : goal.invariant-loop-module
invariant-loop-module l = l.cells.items ≡ map (λ n. min n (2 ^ 64 - 1)) (cells_after [] (take l.module-index l.modules))
