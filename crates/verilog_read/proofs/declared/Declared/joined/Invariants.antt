use Rattle.std.proofs.Common.{◌≡◌, [], length, map, take}
use Rattle.rtl_ir.specs.declared.design.Module.{Module}
use Rattle.verilog_syntax.specs.Trees.{port_view, connection_view}
use Rattle.rtl_reading.specs.Uses.{Scope, connection_uses, port_name}
use Rattle.verilog_read.specs.Built.{HasNets}
use Rattle.verilog_read.specs.Walk.{HasTables, AllDeclared}
use Rattle.verilog_read.specs.Joined.{AreJoined}
use Rattle.verilog_read.proofs.declared.Declared.joined.Given as goal

abbrev pub invariant-loop-connection : goal.invariant-loop-connection
invariant-loop-connection l = record {
  size : length l.nets.items ≡ length l.ports;
  joined : (sc : Scope) (m : Module) → HasNets sc m → HasTables m l.self
      → AllDeclared (connection_uses sc (map port_name (map port_view l.ports)) [] (map connection_view (take l.connection-index l.connections)))
      (AreJoined m (map port_name (map port_view l.ports)) (map connection_view (take l.connection-index l.connections)) l.nets.items);
}
