use Rattle.std.proofs.Common.{◌≡◌, ◌++◌, take}
use Rattle.std.specs.List.{flat_map}
use Rattle.verilog_print.specs.Printed.{assign_text}
use Rattle.verilog_print.proofs.printer.Printer.assigns.Given as goal

abbrev pub invariant-loop-assign : goal.invariant-loop-assign
invariant-loop-assign l = (l.self.text ≡ l.initial.self.text ++ flat_map (assign_text l.module) (take l.assign-index l.assign-items)) × (l.self.before ≡ l.initial.self.before)
