use Rattle.cycle_find.specs.Constraints.{numbers_of}
use Rattle.kernel_layout.specs.Layouts.{AreReads}
use Rattle.kernel_layout.proofs.reads.all_reads.Given as goal

-- the nodes so far read their operands
abbrev pub invariant-loop-reader : goal.invariant-loop-reader
invariant-loop-reader l = record {
  read : AreReads l.kernel.nodes (numbers_of l.times) l.reader l.reads.items;
}
