use Rattle.std.proofs.Common.{map, take}
use Rattle.rtl_ir.specs.declared.design.Module.{Module}
use Rattle.verilog_syntax.specs.Trees.{update_view}
use Rattle.rtl_reading.specs.Uses.{Scope, updates_uses}
use Rattle.verilog_read.specs.Built.{HasNets}
use Rattle.verilog_read.specs.Walk.{HasTables, AllDeclared, IsUpdated}
use Rattle.verilog_read.proofs.items.add_updates.Given as goal

abbrev pub invariant-loop-tree : goal.invariant-loop-tree
invariant-loop-tree l =
    (sc : Scope) (m : Module) → HasNets sc m → HasTables m l.declared
    → AllDeclared (updates_uses sc (map update_view (take l.tree-index l.trees))) (IsUpdated m (map update_view (take l.tree-index l.trees)) l.fn.updates l.updates)
