use Rattle.verilog_sim.specs.Compiled.{AreInstructions}
use Rattle.verilog_sim.proofs.compile.instructions_of.Given as goal

abbrev pub invariant-loop-assign : goal.invariant-loop-assign
invariant-loop-assign l = AreInstructions l.«module» l.order l.instructions.items l.assign-index
