use Rattle.std.proofs.Common.{◌≡◌, ◌++◌, take}
use Rattle.std.specs.List.{flat_map}
use Rattle.verilog_print.specs.Printed.{module_text}
use Rattle.verilog_print.proofs.printer.Printer.modules.Given as goal

abbrev pub invariant-loop-module : goal.invariant-loop-module
invariant-loop-module l = (l.self.text ≡ l.initial.self.text ++ flat_map (module_text l.modules) (take l.module-index l.modules)) × (l.self.before ≡ l.initial.self.before)
