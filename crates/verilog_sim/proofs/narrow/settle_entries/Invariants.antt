use Rattle.std.proofs.Common.{◌≡◌, ℕ, ◌+◌, ◌++◌, List, length, map}
use Rattle.rtl_ir.specs.declared.design.Module.{Module}
use Rattle.rtl_ir.specs.declared.design.Assign.{Assign}
use Rattle.verilog_sim.specs.declared.instruction.Instruction.{Instruction}
use Rattle.verilog_sim.specs.Compiled.{AreInstructionsOf}
use Rattle.verilog_sim.specs.Batches.{instruction_of}
use Rattle.verilog_sim.specs.Halves.{words}
use Rattle.verilog_sim.specs.Settled.{IsInOrder, AreWords, Progress}
use Rattle.verilog_sim.proofs.narrow.settle_entries.Given as goal

abbrev pub invariant-loop-entry : goal.invariant-loop-entry
invariant-loop-entry g l =
    (high : List ℕ)
    → length l.fn.low ≡ length high
    → (m : Module) (order : List Assign) (old : List ℕ) (before rest : List Instruction)
    → AreInstructionsOf m order ((before ++ map (instruction_of g.R.Operation.step) l.entries) ++ rest)
    → IsInOrder m order
    → AreWords m old l.memories
    → Progress m order l.memories old (words l.fn.low high) (length before)
    → Progress m order l.memories old (words l.low high) (length before + l.entry-index)
