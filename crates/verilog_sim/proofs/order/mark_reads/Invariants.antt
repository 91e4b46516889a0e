use Rattle.rtl_ir.specs.Operands.{reads}
use Rattle.verilog_sim.proofs.Marking.{Marked}
use Rattle.verilog_sim.proofs.order.mark_reads.Given as goal

abbrev pub invariant-loop-net : goal.invariant-loop-net
invariant-loop-net l = Marked (reads l.expr) l.fn.marks l.marks l.net-index
