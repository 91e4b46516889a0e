use Rattle.std.proofs.Common.{◌≡◌, ℕ, ◌+◌, ◌++◌, List, length}
use Rattle.rtl_ir.specs.declared.design.Module.{Module}
use Rattle.rtl_ir.specs.declared.design.Assign.{Assign}
use Rattle.verilog_sim.specs.declared.instruction.Instruction.{Instruction}
use Rattle.verilog_sim.specs.Compiled.{AreInstructionsOf}
use Rattle.verilog_sim.specs.Settled.{IsInOrder, AreWords, Progress}
use Rattle.verilog_sim.proofs.settle.settle_instructions.Given as goal

abbrev pub invariant-loop-instruction : goal.invariant-loop-instruction
invariant-loop-instruction l =
    (length l.values ≡ length l.fn.values)
    × ((m : Module) (order : List Assign) (old : List ℕ) (before rest : List Instruction)
    → AreInstructionsOf m order ((before ++ l.instructions) ++ rest)
    → IsInOrder m order
    → AreWords m old l.memories
    → Progress m order l.memories old l.fn.values (length before)
    → Progress m order l.memories old l.values (length before + l.instruction-index))
