use Rattle.std.proofs.Common.{◌≡◌, ◌++◌, take}
use Rattle.std.specs.Prelude.{codes}
use Rattle.std.specs.List.{flat_map}
use Rattle.rtl_ir.specs.declared.design.Port.{Port}
use Rattle.verilog_print.specs.Printed.{port_text}
use Rattle.verilog_print.proofs.printer.Printer.ports.Given as goal

abbrev pub invariant-loop-port : goal.invariant-loop-port
invariant-loop-port l = (l.self.text ≡ l.initial.self.text ++ flat_map (λ (p : Port). codes ",\n" ++ port_text l.nets p) (take l.port-index l.others)) × (l.self.before ≡ l.initial.self.before)
