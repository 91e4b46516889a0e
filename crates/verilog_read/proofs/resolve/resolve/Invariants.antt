use Rattle.std.proofs.Common.{[], map, take}
use Rattle.verilog_syntax.specs.Trees.{module_view}
use Rattle.rtl_reading.specs.Uses.{text_uses}
use Rattle.verilog_read.specs.Tables.{IsTable}
use Rattle.verilog_read.specs.Walk.{AllDeclared, AreSaid, module_name}
use Rattle.verilog_read.proofs.resolve.resolve.Given as goal

abbrev pub invariant-loop-number : goal.invariant-loop-number
invariant-loop-number l = record {
  said : AllDeclared (text_uses [] (map module_view (take l.number l.trees))) (AreSaid (map module_view (take l.number l.trees)) l.modules);
  table : IsTable l.numbers (map module_name (map module_view (take l.number l.trees)));
}
