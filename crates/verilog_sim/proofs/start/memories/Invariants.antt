use Rattle.std.proofs.Common.{◌≡◌, map, take}
use Rattle.verilog_sim.specs.Start.{words_at_start}
use Rattle.verilog_sim.proofs.start.memories.Given as goal

abbrev pub invariant-loop-memory : goal.invariant-loop-memory
invariant-loop-memory l = l.memories.items ≡ map (words_at_start l.fill) (take l.memory-index l.memory-items)
