use Rattle.std.proofs.Common.{◌≡◌, false, map, take}
use Rattle.std.specs.List.{list_any}
use Rattle.verilog_syntax.specs.Trees.{port_view}
use Rattle.rtl_reading.specs.Uses.{is_bit_input}
use Rattle.verilog_read.proofs.ports.has_input.Given as goal

abbrev pub invariant-loop-port : goal.invariant-loop-port
invariant-loop-port l = list_any (is_bit_input l.name) (map port_view (take l.port-index l.ports)) ≡ false
