use Rattle.std.proofs.Common.{◌≡◌, [], map, take}
use Rattle.rtl_text.specs.Tree.{Name}
use Rattle.verilog_syntax.specs.Trees.{item_view}
use Rattle.rtl_reading.specs.Uses.{Scope, items_uses}
use Rattle.verilog_read.specs.Walk.{IsBuilt, AllDeclared, AreEarlier, item_scope}
use Rattle.verilog_read.proofs.builder.Builder.items.Given as goal

abbrev pub invariant-loop-item : goal.invariant-loop-item
invariant-loop-item l =
    (named : Name) (sc : Scope) → sc.items ≡ [] → AreEarlier l.earlier sc.modules → IsBuilt named sc l.fn.self
    → AllDeclared (items_uses sc.modules sc.ports [] (map item_view (take l.item-index l.items))) (IsBuilt named (item_scope sc (map item_view (take l.item-index l.items))) l.self)
