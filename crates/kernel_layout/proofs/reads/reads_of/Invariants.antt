use Rattle.cycle_find.specs.Constraints.{numbers_of}
use Rattle.kernel_layout.specs.Reads.{AreReadsBelow}
use Rattle.kernel_layout.proofs.reads.reads_of.Given as goal

-- the operands so far are read
abbrev pub invariant-loop-operand : goal.invariant-loop-operand
invariant-loop-operand l = record {
  read : AreReadsBelow l.kernel.nodes (numbers_of l.times) l.reader l.operand-index l.reads;
}
