use Rattle.std.proofs.Common.{◌≡◌, ◌++◌, take}
use Rattle.std.specs.List.{flat_map}
use Rattle.verilog_print.specs.Printed.{update_text}
use Rattle.verilog_print.proofs.printer.Printer.block.Given as goal

abbrev pub invariant-loop-update : goal.invariant-loop-update
invariant-loop-update l = (l.self.text ≡ l.initial.self.text ++ flat_map (update_text l.module) (take l.update-index l.updates)) × (l.self.before ≡ l.initial.self.before)
