use Rattle.std.proofs.Common.{◌≡◌, List, length, take}
use Rattle.rtl_ir.specs.declared.design.Module.{Module}
use Rattle.rtl_ir.specs.declared.design.Assign.{Assign}
use Rattle.verilog_sim.specs.Compiled.{AreInstructionsOf}
use Rattle.verilog_sim.specs.Batches.{instructions_of_all}
use Rattle.verilog_sim.specs.Settled.{IsInOrder, AreWords, Progress}
use Rattle.verilog_sim.proofs.settle.settle.Given as goal

abbrev pub invariant-loop-batch : goal.invariant-loop-batch
invariant-loop-batch l = (length l.values ≡ length l.fn.values)
    × ((m : Module) (assigns : List Assign) → AreInstructionsOf m assigns (instructions_of_all l.batches)
    → IsInOrder m assigns → AreWords m l.fn.values l.memories
    → Progress m assigns l.memories l.fn.values l.values
    (length (instructions_of_all (take l.batch-index l.batches))))
