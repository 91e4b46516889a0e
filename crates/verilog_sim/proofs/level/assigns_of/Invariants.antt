use Rattle.std.proofs.Common.{◌≡◌, map, take}
use Rattle.verilog_sim.specs.Levels.{assign_of}
use Rattle.verilog_sim.proofs.level.assigns_of.Given as goal

abbrev pub invariant-loop-item : goal.invariant-loop-item
invariant-loop-item l = l.assigns.items ≡ map assign_of (take l.item-index l.ranked)
