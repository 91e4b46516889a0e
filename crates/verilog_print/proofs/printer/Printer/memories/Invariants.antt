use Rattle.std.proofs.Common.{◌≡◌, ◌++◌, take}
use Rattle.std.specs.List.{flat_map}
use Rattle.verilog_print.specs.Printed.{memory_text}
use Rattle.verilog_print.proofs.printer.Printer.memories.Given as goal

abbrev pub invariant-loop-mem : goal.invariant-loop-mem
invariant-loop-mem l = (l.self.text ≡ l.initial.self.text ++ flat_map memory_text (take l.mem-index l.mems)) × (l.self.before ≡ l.initial.self.before)
