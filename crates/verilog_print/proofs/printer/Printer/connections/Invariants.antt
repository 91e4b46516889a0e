use Rattle.std.proofs.Common.{◌≡◌, ◌++◌}
use Rattle.std.specs.List.{zip}
use Rattle.std.specs.Iterator.Adapters.{zip_first, zip_second}
use Rattle.std.specs.Slice.Iter.{iter_rest}
use Rattle.verilog_print.specs.Printed.{connection_text, connections_text}
use Rattle.verilog_print.proofs.Steps.{pieces_left}
use Rattle.verilog_print.proofs.printer.Printer.connections.Given as goal

-- what was there before, and the whole text behind it, is what was printed and what is left
abbrev pub invariant-loop-port : goal.invariant-loop-port
invariant-loop-port l =
    (l.initial.self.text ++ connections_text l.outer l.inner.nets (zip l.inner.ports l.joined)
    ≡ l.self.text ++ pieces_left (connection_text l.outer l.inner.nets) l.separator
    (zip (iter_rest (zip_first l.port-iterator)) (iter_rest (zip_second l.port-iterator))))
    × (l.self.before ≡ l.initial.self.before)
