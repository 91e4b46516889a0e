use Rattle.std.proofs.Common.{◌≡◌, take}
use Rattle.rtl_ir.specs.Operands.{reads}
use Rattle.verilog_sim.proofs.order.operands.Given as goal

abbrev pub invariant-loop-net : goal.invariant-loop-net
invariant-loop-net l = l.nodes.items ≡ take l.net-index (reads l.expr)
