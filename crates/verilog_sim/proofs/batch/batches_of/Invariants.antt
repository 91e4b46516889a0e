use Rattle.std.proofs.Common.{◌≡◌, ◌++◌, take}
use Rattle.verilog_sim.specs.Batches.{instructions_in, instructions_of_all}
use Rattle.verilog_sim.proofs.batch.batches_of.Given as goal

abbrev pub invariant-loop-instruction : goal.invariant-loop-instruction
invariant-loop-instruction l = instructions_of_all l.batches.items ++ instructions_in l.last ≡ take l.instruction-index l.instructions
