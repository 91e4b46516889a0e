use Rattle.std.proofs.Common.{◌≡◌, ◌++◌, take}
use Rattle.std.specs.List.{flat_map}
use Rattle.verilog_print.specs.Printed.{instance_text}
use Rattle.verilog_print.proofs.printer.Printer.instances.Given as goal

abbrev pub invariant-loop-instance : goal.invariant-loop-instance
invariant-loop-instance l = (l.self.text ≡ l.initial.self.text ++ flat_map (instance_text l.modules l.outer) (take l.instance-index l.instance-items)) × (l.self.before ≡ l.initial.self.before)
