use Rattle.std.proofs.Common.{◌≡◌, ◌++◌, take}
use Rattle.verilog_print.specs.Printed.{nets_text}
use Rattle.verilog_print.proofs.printer.Printer.nets.Given as goal

abbrev pub invariant-loop-number : goal.invariant-loop-number
invariant-loop-number l = (l.self.text ≡ l.initial.self.text ++ nets_text l.ports 0 (take l.number l.nets)) × (l.self.before ≡ l.initial.self.before)
