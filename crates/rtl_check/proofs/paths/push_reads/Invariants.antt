use Rattle.std.proofs.Common.{◌≡◌, ◌++◌, take}
use Rattle.rtl_ir.specs.Operands.{reads}
use Rattle.rtl_check.proofs.paths.push_reads.Given as goal

abbrev pub invariant-loop-net : goal.invariant-loop-net
invariant-loop-net l = l.nets ≡ l.initial.nets ++ take l.net-index (reads l.fn.expr)
