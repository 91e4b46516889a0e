use Rattle.std.proofs.Common.{List, [], map, take}
use Rattle.rtl_text.specs.Tree.{Name, ModuleTree}
use Rattle.verilog_syntax.specs.Trees.{port_view}
use Rattle.verilog_read.specs.Walk.{IsBuilt, port_scope}
use Rattle.verilog_read.proofs.builder.Builder.ports.Given as goal

abbrev pub invariant-loop-port : goal.invariant-loop-port
invariant-loop-port l =
    (named : Name) (modules : List ModuleTree) → IsBuilt named (port_scope modules []) l.fn.self → IsBuilt named (port_scope modules (map port_view (take l.port-index l.ports))) l.self
